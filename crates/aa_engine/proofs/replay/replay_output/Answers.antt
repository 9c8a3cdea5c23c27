use Rattle.std.proofs.Common.{◌∙◌, ap, sym, length}
use Rattle.aa_engine.proofs.Replaying.{replaying_start, replaying_more, replaying_end, written_back, is_there}
use Rattle.aa_engine.proofs.replay.replay_output.Goals as goal

pub loop-event-init : goal.loop-event-init
loop-event-init c = replaying_start _ _ _ _ _ _ _ c.new-out.ensures.bytes (rw c.as_slice.ensures at c.in_ok-states.ensures)

pub push_event-requires : goal.push_event-requires
push_event-requires c =
    rw (c.as_slice-event-items.ensures, c.as_mut_slice.ensures.value)
    (is_there _ _ c.args.job.now.events _ _ c.loop-event.event-index _ c.args.job.now.limits (sym c.loop-event.invariant.sized) (rw c.as_slice-event-items.ensures at c.loop-event-test.true))

pub loop-event-preserved : goal.loop-event-preserved
loop-event-preserved c =
    replaying_more _ _ _ _ c.args.job.now.events _ _ c.loop-event.states.items _ c.loop-event.event-index _ (rw c.as_slice-event-items.ensures at c.loop-event-test.true)
    (rw (c.as_mut_slice.ensures.value, c.as_slice-event-items.ensures) at c.in_ok-push_event.ensures.line)
    (written_back _ c.loop-event.states.items _ _ (ap length (sym c.as_mut_slice.ensures.value) ∙ c.as_mut_slice.ensures.len)
    (rw (c.as_mut_slice.ensures.value, c.as_slice-event-items.ensures) at c.in_ok-push_event.ensures.tasks))
    c.loop-event.invariant

pub returns : goal.returns
returns c = replaying_end _ _ _ _ c.args.job.now.events _ c.loop-event.states.items c.loop-event.event-index (rw c.as_slice-event-items.ensures at c.loop-event-test.false) c.loop-event.invariant
