use Rattle.std.proofs.Common.{◌≡◌, ◌++◌, length, false}
use Rattle.aa_words.specs.Splits.{words_data}
use Rattle.aa_skipped.specs.Flags.{without_flags}
use Rattle.aa_skipped.proofs.flags.without_flags.Given as goal

abbrev pub invariant-loop-rest : goal.invariant-loop-rest
invariant-loop-rest l = words_data l.kept.items ++ without_flags l.inside (words_data l.rest) ≡ without_flags false (words_data l.words)

abbrev pub decreases-loop-rest : goal.decreases-loop-rest
decreases-loop-rest l = length l.rest
