use Rattle.std.proofs.Common.{◌≡◌, drop}
use Rattle.aa_explain.specs.Deciders.{unnamed}
use Rattle.aa_explain.specs.Told.{sayings_of}
use Rattle.aa_explain.proofs.deciders.unnamed.Given as goal

abbrev pub invariant-loop-rule : goal.invariant-loop-rule
invariant-loop-rule l = unnamed l.deny (l.left.0) (sayings_of (drop l.rule-index l.told)) ≡ unnamed l.deny (l.fn.asked.0) (sayings_of l.told)
