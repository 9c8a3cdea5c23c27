-- Lists of names and words, as the code has them and as the definitions do.
use Rattle.std.proofs.Common.{◌≡◌, ℕ, List, length, map, Option}
use Rattle.std.specs.Prelude.{Vec}
use Rattle.std.specs.declared.alloc.Global.{Global}
use Rattle.std.specs.List.{list_any}
use Rattle.std.specs.Str.{bytes_eq}
use Rattle.std.proofs.lemmas.List.{length-map}
use Rattle.aa_logs.specs.declared.word.LogWord.{LogWord}
use Rattle.aa_logs.specs.Words.{word_data, words_data}
use Rattle.aa_logs.specs.Chosen.{is_stamp_between}
use Rattle.aa_logs.proofs.Found.{any-map}

pub any_name : (names : List (Vec ℕ Global)) (name : List ℕ) → list_any (λ n. bytes_eq n name) (map (λ n. n.items) names) ≡ list_any (λ n. bytes_eq n.items name) names
any_name names name = any-map (λ n. n.items) (λ n. bytes_eq n name) names

pub same_length : (names : List (Vec ℕ Global)) → length (map (λ n. n.items) names) ≡ length names
same_length names = length-map names (λ n. n.items)

pub any_word : (since until : Option ℕ) (ws : List LogWord) → list_any (is_stamp_between since until) (words_data ws) ≡ list_any (λ w. is_stamp_between since until (word_data w)) ws
any_word since until ws = any-map word_data (is_stamp_between since until) ws
