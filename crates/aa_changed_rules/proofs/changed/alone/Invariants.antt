use Rattle.aa_changed_rules.specs.Forms.{lists}
use Rattle.aa_changed_rules.proofs.Knowing.{IsDone}
use Rattle.aa_changed_rules.proofs.changed.alone.Given as goal

abbrev pub invariant-loop-number : goal.invariant-loop-number
invariant-loop-number l = IsDone l.known.keys l.numbers.items (lists l.others) (lists l.forms) l.number
