use Rattle.std.proofs.Common.{take, option_map}
use Rattle.aa_files.specs.Texts.{texts}
use Rattle.aa_reach.specs.Answers.{AreAnswers}
use Rattle.aa_reach.proofs.answering.answers_from.Given as goal

abbrev pub invariant-loop-label : goal.invariant-loop-label
invariant-loop-label l =
    AreAnswers l.unclean l.beside.course.going.as_enforced l.beside.course.going.policies.now l.beside.skipped.now l.limit (option_map (λ ts. ts.now) l.targets)
    (texts l.sought) (take l.label-index l.labels) l.answers.items
