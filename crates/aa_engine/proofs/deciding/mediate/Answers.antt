use Rattle.std.proofs.Common.{◌≡◌, length, map, ap, sym, Some, ◌∙◌, arith}
use Rattle.aa_engine.specs.Answers.{task_label}
use Rattle.aa_engine.proofs.Answering.{all_answered, as_many, fits_lanes, mapped_twice}
use Rattle.aa_engine.proofs.deciding.mediate.Goals as goal

pub answered-requires-clause-fits : goal.answered-requires-clause-fits
answered-requires-clause-fits g c κs within =
    let job = c.args.job.now in
    let fits = fits_lanes job.policies job.includes job.tasks job.states job.capacity job.events job.limits in
    let askings = c.in_ok-askings.askings in
    let many : length c.in_ok-askings.askings.items ≡ length c.args.job.now.tasks =
    as_many (λ a. Some a.start) (task_label c.args.policies.now) c.in_ok-askings.askings.items c.args.job.now.tasks (rw c.as_slice-tasks.ensures at c.in_ok-askings.ensures.labels) in
    (omega (arith, fits.0, many, askings.ok), fits.1, fits.2)

pub returns-in-Ok-clause-answers : goal.returns-in-Ok-clause-answers
returns-in-Ok-clause-answers g c =
    all_answered g.M.Machine.next g.M.Machine.reply c.args.machine.now c.args.policies.now c.in_ok-askings.askings.items c.args.job.now.tasks
    (rw c.as_slice-tasks.ensures at c.in_ok-askings.ensures.labels) (c.in_ok-askings.ensures.requests ∙ (rw c.as_slice-tasks.ensures at c.in_ok-copies.ensures))
    ∙ ap (λ rows. Some rows) (sym c.in-Ok.ensures.answers)

pub returns-in-Ok-clause-closed : goal.returns-in-Ok-clause-closed
returns-in-Ok-clause-closed g c = record {
  labels = map (λ a. a.start) c.in_ok-askings.askings.items;
  outcomes = c.in-Ok.ensures.closed.outcomes;
  named = sym (mapped_twice (λ l. Some l) (λ a. a.start) c.in_ok-askings.askings.items ∙ (rw c.as_slice-tasks.ensures at c.in_ok-askings.ensures.labels));
  answers = c.in-Ok.ensures.closed.answers;
  closed = c.in-Ok.ensures.closed.closed;
}
