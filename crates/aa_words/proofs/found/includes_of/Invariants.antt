use Rattle.std.proofs.Common.{◌≡◌, ◌+◌, ◌≤◌, length}
use Rattle.aa_words.specs.Found.{HasIncludesTo}
use Rattle.aa_words.specs.FoundData.{includes_data}
use Rattle.aa_words.proofs.found.includes_of.Given as goal

abbrev pub invariant-loop-rest : goal.invariant-loop-rest
invariant-loop-rest l = record {
  cut : HasIncludesTo l.source l.place l.at l.rest (includes_data l.found.items);
  shallow : l.place.parens ≤ l.at;
  left : l.at + length l.rest ≡ length l.source;
}

abbrev pub decreases-loop-rest : goal.decreases-loop-rest
decreases-loop-rest l = length l.rest
