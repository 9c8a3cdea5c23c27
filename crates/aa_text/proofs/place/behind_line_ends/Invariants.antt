use Rattle.std.proofs.Common.{◌≡◌, length}
use Rattle.aa_text.specs.Places.{last_line}
use Rattle.aa_text.proofs.Lines.{line_then}
use Rattle.aa_text.proofs.place.behind_line_ends.Given as goal

abbrev pub invariant-loop-rest : goal.invariant-loop-rest
invariant-loop-rest l = last_line l.text ≡ line_then l.rest l.line

abbrev pub decreases-loop-rest : goal.decreases-loop-rest
decreases-loop-rest l = length l.rest
