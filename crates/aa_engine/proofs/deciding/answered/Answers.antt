use Rattle.std.proofs.Common.{length, sym, ap, ◌∙◌, arith}
use Rattle.std.proofs.lemmas.List.{length-map}
use Rattle.aa_pool.specs.Answers.{answers_to}
use Rattle.aa_engine.proofs.Answering.{lanes_denied}
use Rattle.aa_engine.proofs.deciding.answered.Goals as goal

pub lane_fault-requires : goal.lane_fault-requires
lane_fault-requires g c = let h = c.requires.fits in lanes_denied _ _ _ h.0 h.1 h.2 c.in-Err.ensures.fault

pub returns-in-Ok-clause-answers : goal.returns-in-Ok-clause-answers
returns-in-Ok-clause-answers g c = c.rows_of.ensures ∙ c.in-Ok.ensures.answers

pub returns-in-Ok-clause-closed : goal.returns-in-Ok-clause-closed
returns-in-Ok-clause-closed g c = record { outcomes = c.in-Ok.outcomes.items; answers = sym c.rows_of.ensures; closed = c.in-Ok.ensures.closed }

pub rows_of-requires-clause-room : goal.rows_of-requires-clause-room
rows_of-requires-clause-room g c =
    let asked = length-map c.args.askings.items (λ t. answers_to g.M.Machine.next g.M.Machine.reply c.args.machine.now t.start t.requests.items) in
    let given = length-map c.in-Ok.outcomes.items (λ o. o.answers.items) in
    omega (arith, asked, given, ap length c.in-Ok.ensures.answers, c.in-Ok.outcomes.ok, c.args.askings.ok, c.len.ensures, (c.in_ok-rows.ensures {u = tt}).capacity)
