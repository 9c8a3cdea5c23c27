use Rattle.std.proofs.Common.{◌≡◌, drop}
use Rattle.aa_rules.specs.Modes.{is_mixed, holds_mixed}
use Rattle.aa_rules.proofs.modes.is_mixed.Given as goal

abbrev pub invariant-loop-i : goal.invariant-loop-i
invariant-loop-i l = is_mixed l.mode ≡ holds_mixed l.may_begin (drop l.i l.mode)
