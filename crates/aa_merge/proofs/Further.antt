-- A row more of a list that is added.
use Rattle.std.proofs.Common.{◌≡◌, ℕ, ◌+◌, ◌<◌, ◌≤◌, List, [], ◌++◌, length, map, take, drop, get_or, sym, ap, subst, ◌∙◌}
use Rattle.std.proofs.Common.{append-nil, append_assoc}
use Rattle.std.proofs.lemmas.List.{map-append, take-append-drop}
use Rattle.aa_log.specs.Counted.{Counted}
use Rattle.aa_log.proofs.Answered.{next_taken}
use Rattle.aa_merge.specs.Held.{HasMore}
use Rattle.aa_log.specs.Joined.{with_row, joined}
use Rattle.aa_log.proofs.Joining.{joined_push, joined_both, longer}

pub no_more : (paths : List (List ℕ)) → HasMore paths paths
no_more paths = ([], sym (append-nil paths))

pub more_and_more : (a b c : List (List ℕ)) → HasMore a b → HasMore b c → HasMore a c
more_and_more a b c f g = (f.0 ++ g.0, g.1 ∙ ap (λ (l : List (List ℕ)). l ++ g.0) f.1 ∙ append_assoc a f.0 g.0)

module _ {X A : Type 0} (row : X → Counted A) (key : A → List ℕ) where
  -- the rows so far, and the next one
  pub next_joined : (before : List (Counted A)) (xs : List X) (i : ℕ) (x : X) → i < length xs → x ≡ get_or xs i x
      → joined key before (map row (take (i + 1) xs)) ≡ with_row key (joined key before (map row (take i xs))) (row x)
  next_joined before xs i x lt is = ap (joined key before) (next_taken row xs i x lt is) ∙ joined_push key before (map row (take i xs)) (row x)

  -- there are no fewer rows at the end
  pub joined_longer : (before : List (Counted A)) (xs : List X) (i : ℕ)
      → length (joined key before (map row (take i xs))) ≤ length (joined key before (map row xs))
  joined_longer before xs i =
      let whole : map row (take i xs) ++ map row (drop i xs) ≡ map row xs = sym (map-append row (take i xs) (drop i xs))
      ∙ ap (map row) (take-append-drop i xs) in
      let all : joined key before (map row xs) ≡ joined key (joined key before (map row (take i xs))) (map row (drop i xs)) = ap (joined key before)
      (sym whole) ∙ joined_both key before (map row (take i xs)) (map row (drop i xs)) in
      subst (λ (l : List (Counted A)). length (joined key before (map row (take i xs))) ≤ length l) (sym all)
      (longer key (joined key before (map row (take i xs))) (map row (drop i xs)))
