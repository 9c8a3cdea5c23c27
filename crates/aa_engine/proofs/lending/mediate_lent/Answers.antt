use Rattle.std.proofs.Common.{◌≡◌, length, map, ap, sym, Some, ◌∙◌, arith}
use Rattle.aa_engine.specs.Answers.{task_label}
use Rattle.aa_engine.proofs.Answering.{all_answered, as_many, fits_lanes, mapped_twice}
use Rattle.aa_engine.proofs.lending.mediate_lent.Goals as goal

pub answered-requires-clause-fits : goal.answered-requires-clause-fits
answered-requires-clause-fits g c κs within =
    let job = c.args.job.now in
    let fits = fits_lanes job.policies job.includes job.tasks job.states job.capacity job.events job.limits in
    let askings = c.in-Ok.askings in
    let many : length c.in-Ok.askings.items ≡ length c.args.job.now.tasks =
    as_many (λ a. Some a.start) (task_label c.args.policies.now) c.in-Ok.askings.items c.args.job.now.tasks (rw c.as_slice-tasks.ensures at c.in-Ok.ensures.labels) in
    (omega (arith, fits.0, many, askings.ok), fits.1, fits.2)

pub returns-in-Ok-answered-clause-answers : goal.returns-in-Ok-answered-clause-answers
returns-in-Ok-answered-clause-answers g c =
    all_answered g.M.Machine.next g.M.Machine.reply c.args.machine.now c.args.policies.now c.in-Ok.askings.items c.args.job.now.tasks
    (rw c.as_slice-tasks.ensures at c.in-Ok.ensures.labels) (c.in-Ok.ensures.requests ∙ (rw c.as_slice-tasks.ensures at c.in_ok-requests.ensures))
    ∙ ap (λ rows. Some rows) (sym (rw c.new-lender.ensures at c.in-Ok-answered.ensures.answers))

pub returns-in-Ok-answered-clause-closed : goal.returns-in-Ok-answered-clause-closed
returns-in-Ok-answered-clause-closed g c = record {
  labels = map (λ a. a.start) c.in-Ok.askings.items;
  outcomes = c.in-Ok-answered.ensures.closed.outcomes;
  named = sym (mapped_twice (λ l. Some l) (λ a. a.start) c.in-Ok.askings.items ∙ (rw c.as_slice-tasks.ensures at c.in-Ok.ensures.labels));
  answers = c.in-Ok-answered.ensures.closed.answers;
  closed = rw c.new-lender.ensures at c.in-Ok-answered.ensures.closed.closed;
}
