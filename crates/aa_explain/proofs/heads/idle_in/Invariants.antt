use Rattle.std.proofs.Common.{◌≡◌, take}
use Rattle.std.specs.Prelude.{flat_map}
use Rattle.aa_words.specs.Splits.{words_data}
use Rattle.aa_explain.specs.Heads.{if_idle}
use Rattle.aa_explain.proofs.heads.idle_in.Given as goal

abbrev pub invariant-loop-word : goal.invariant-loop-word
invariant-loop-word l = l.flags.items ≡ flat_map if_idle (words_data (take l.word-index l.words))
