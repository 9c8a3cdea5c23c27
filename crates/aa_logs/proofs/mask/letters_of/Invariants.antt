use Rattle.std.proofs.Common.{◌≡◌, drop}
use Rattle.aa_logs.specs.Masks.{letters_bits}
use Rattle.aa_logs.proofs.mask.letters_of.Given as goal

abbrev pub invariant-loop-b : goal.invariant-loop-b
invariant-loop-b l = letters_bits (l.perms.0) (drop l.b-index l.text) ≡ letters_bits (l.initial.perms.0) l.text
