use Rattle.std.proofs.Common.{◌≡◌, drop}
use Rattle.aa_rules.specs.Names.{holds}
use Rattle.aa_diagnostics.proofs.left_out.holds.Given as goal

abbrev pub invariant-loop-i : goal.invariant-loop-i
invariant-loop-i l = holds l.part l.text ≡ holds l.part (drop l.i l.text)
