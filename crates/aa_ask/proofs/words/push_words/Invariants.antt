use Rattle.std.proofs.Common.{◌≡◌, ◌≤◌, ◌++◌, map, flat_map, vec_len}
use Rattle.aa_ask.specs.Words.{texts, word_of}
use Rattle.aa_ask.proofs.words.push_words.Given as goal

abbrev pub invariant-loop-line : goal.invariant-loop-line
invariant-loop-line l = record {
  added : texts l.words.items ≡ texts l.initial.words.items ++ flat_map word_of (map (λ line. line.now) l.yielded);
  within : vec_len l.initial.words ≤ 65536 → vec_len l.words ≤ 65536;
}
