use Rattle.std.proofs.Common.{◌≡◌, ◌≤◌, ◌+◌, ◌++◌, length}
use Rattle.aa_words.specs.Splits.{words_data}
use Rattle.aa_skipped.specs.Bodies.{without_bodies}
use Rattle.aa_skipped.proofs.bodies.without_bodies.Given as goal

abbrev pub invariant-loop-rest : goal.invariant-loop-rest
invariant-loop-rest l = record {
  kept : words_data l.kept.items ++ without_bodies l.depth (words_data l.rest) ≡ without_bodies 0 (words_data l.words);
  few : l.depth + length l.rest ≤ length l.words;
}

abbrev pub decreases-loop-rest : goal.decreases-loop-rest
decreases-loop-rest l = length l.rest
