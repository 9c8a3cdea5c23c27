use Rattle.std.proofs.Common.{◌≡◌, length}
use Rattle.aa_text.specs.Excerpts.{from_character}
use Rattle.aa_text.proofs.cut.behind_rest.Given as goal

abbrev pub invariant-loop-rest : goal.invariant-loop-rest
invariant-loop-rest l = from_character l.bytes ≡ from_character l.rest

abbrev pub decreases-loop-rest : goal.decreases-loop-rest
decreases-loop-rest l = length l.rest
