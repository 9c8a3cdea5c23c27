use Rattle.std.proofs.Common.{◌≡◌, drop}
use Rattle.aa_notation.specs.Read.{letters_in}
use Rattle.aa_notation.proofs.read.letters_of.Given as goal

abbrev pub invariant-loop-b : goal.invariant-loop-b
invariant-loop-b l = letters_in (l.perms.0) (drop l.b-index l.letters) ≡ letters_in (l.initial.perms.0) l.letters
