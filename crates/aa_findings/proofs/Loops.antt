-- What is found of one rule more.
use Rattle.std.proofs.Common.{◌≡◌, ℕ, suc, ◌+◌, ◌<◌, List, [], ◌++◌, length, get_or, Some, sym, ap, ◌∙◌, append_assoc, add-one}
use Rattle.std.specs.List.{slice_get}
use Rattle.std.specs.Option.{option_map_or}
use Rattle.std.proofs.lemmas.Option.{slice_get-get_or}

pub one_more : {X F : Type 0} (of : ℕ → X → List F) (before : ℕ → List F) (xs : List X) (n : ℕ) (x : X) (start old new : List F) → n < length xs → x ≡ get_or xs n x
    → before (suc n) ≡ before n ++ option_map_or (of n) (slice_get xs n) [] → old ≡ start ++ before n → new ≡ old ++ of n x → new ≡ start ++ before (n + 1)
one_more of before xs n x start old new lt here step so_far added =
    let there : slice_get xs n ≡ Some x = slice_get-get_or xs n x lt ∙ ap Some (sym here) in
    rw (add-one n, step, there, added, so_far) (append_assoc start (before n) (of n x))
