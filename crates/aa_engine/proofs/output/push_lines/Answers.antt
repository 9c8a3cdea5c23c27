use Rattle.std.proofs.Common.{refl, ap, ◌++◌, ◌∙◌, List, ℕ, string_bytes}
use Rattle.aa_engine.proofs.Writing.{verdict_is, writing_task_more, writing_task_end}
use Rattle.aa_engine.proofs.output.push_lines.Goals as goal

pub loop-answered-init : goal.loop-answered-init
loop-answered-init g c = (record { goes_on = refl }, c.requires.end)

pub loop-answered-preserved : goal.loop-answered-preserved
loop-answered-preserved g c =
    let l = c.loop-answered in
    let a = c.answered-item.result in
    let end = verdict_is c.args.several c.args.policies.now c.args.task a c.args.front.now _ c.requires.front c.in_ok-turn_to.ensures.turned in
    let verdict = c.in_ok-push_numbered.ensures ∙ ap (λ (x : List ℕ). string_bytes l.out ++ x) end in (
      writing_task_more _ _ _ _ _ _ _ a c.args.answers.now l.answered-index _ c.loop-answered-test.true c.answered-item.is
          verdict c.in_ok-push_audit.ensures l.invariant.0,
      c.in_ok-turn_to.ensures.own,
    )

pub returns : goal.returns
returns g c = writing_task_end _ _ _ _ _ c.args.answers.now c.loop-answered.answered-index _ c.loop-answered-test.false c.loop-answered.invariant.0
