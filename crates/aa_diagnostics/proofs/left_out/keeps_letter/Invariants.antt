use Rattle.std.proofs.Common.{◌≡◌, drop}
use Rattle.aa_diagnostics.specs.Words.{keeps_letter}
use Rattle.aa_diagnostics.proofs.left_out.keeps_letter.Given as goal

abbrev pub invariant-loop-i : goal.invariant-loop-i
invariant-loop-i l = keeps_letter l.text ≡ keeps_letter (drop l.i l.text)
