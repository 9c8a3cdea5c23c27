use Rattle.std.proofs.Common.{◌≡◌, drop}
use Rattle.aa_notation.specs.Parts.{place_of}
use Rattle.aa_notation.proofs.split.place_of.Given as goal
use Rattle.aa_logs.proofs.Found.{moved}

abbrev pub invariant-loop-at : goal.invariant-loop-at
invariant-loop-at l = moved l.at (place_of l.part (drop l.at l.text)) ≡ place_of l.part l.text
