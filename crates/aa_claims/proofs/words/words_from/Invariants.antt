use Rattle.std.proofs.Common.{length, ◌-◌, map}
use Rattle.aa_claims.specs.Words.{word_data, AreBetween}
use Rattle.aa_claims.proofs.words.words_from.Given as goal

abbrev pub invariant-words : goal.invariant-words
invariant-words l = AreBetween l.text l.start (map word_data l.words.items) l.from

abbrev pub decreases-words : goal.decreases-words
decreases-words l = length l.text - l.from
