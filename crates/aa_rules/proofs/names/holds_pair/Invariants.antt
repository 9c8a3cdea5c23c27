use Rattle.std.proofs.Common.{◌≡◌, drop}
use Rattle.aa_rules.specs.Names.{holds_pair}
use Rattle.aa_rules.proofs.names.holds_pair.Given as goal

abbrev pub invariant-loop-i : goal.invariant-loop-i
invariant-loop-i l = holds_pair l.a l.b l.text ≡ holds_pair l.a l.b (drop l.i l.text)
