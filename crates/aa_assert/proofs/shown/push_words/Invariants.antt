use Rattle.std.proofs.Common.{◌≡◌, ◌++◌, map, take}
use Rattle.std.specs.Prelude.{flat_map}
use Rattle.aa_assert.specs.Shown.{word_behind}
use Rattle.aa_assert.proofs.shown.push_words.Given as goal

abbrev pub invariant-loop-word : goal.invariant-loop-word
invariant-loop-word l = l.out.items ≡ l.initial.out.items ++ flat_map word_behind (map (λ w. w.items) (take l.word-index l.words))
