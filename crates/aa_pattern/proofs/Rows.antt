-- A choice by the lists of its branches.
use Rattle.std.proofs.Common.{◌≡◌, ℕ, ◌+◌, ◌≤◌, ◌↔◌, List, Vec, Global, refl, sym, ap, ◌∙◌, subst, inl, inr, ⊎_elim, arith}
use mathlib.Core.Former.{Count}
use Rattle.aa_pattern.specs.declared.item.Item.{Item, Choice, Choice', Row_of-Item, end_of-Item, more_of-Item, items-the_row-Item, items_shown-the_row-Item-0}
use Rattle.aa_pattern.specs.declared.item.Item.{Row_of-Item-Choice-0-1, end_of-Item-Choice-0-1, more_of-Item-Choice-0-1, items-the_row-Item-Choice-0-1}
use Rattle.aa_pattern.specs.declared.item.Item.{items_hidden-the_row-Item-Choice-0-1-1}
use Rattle.aa_pattern.specs.Globs.{Allows, SomeAllows, AllAllow, Matches, SomeMatches}
use Rattle.aa_pattern.specs.Weights.{weight, weight_of_branches, weight_of_row, weight_of_items, weight_of_lists}

pub row_matches : {n : _} (row : Row_of-Item n) (s : List ℕ) → AllAllow row s ↔ Matches (items-the_row-Item _ row) s
row_matches end_of-Item s = (λ h. h, λ h. h)
row_matches (more_of-Item item rest) s =
    (λ h. (h.0, h.1, h.2, h.3, (row_matches rest h.1).0 h.4), λ h. (h.0, h.1, h.2, h.3, (row_matches rest h.1).1 h.4))

some_matches : {n : _} (rows : Row_of-Item-Choice-0-1 n) (s : List ℕ) →
    SomeAllows rows s ↔ SomeMatches (items-the_row-Item-Choice-0-1 _ rows) s
some_matches end_of-Item-Choice-0-1 s = (λ h. h, λ h. h)
some_matches (more_of-Item-Choice-0-1 shape branch rest) s =
    let same = items_shown-the_row-Item-0 shape branch in (
      λ h. ⊎_elim (λ here. inl (subst (λ xs. Matches xs s) (sym same) ((row_matches branch s).0 here))) (λ later. inr ((some_matches rest s).0 later)) h,
      λ h. ⊎_elim (λ here. inl ((row_matches branch s).1 (subst (λ xs. Matches xs s) same here))) (λ later. inr ((some_matches rest s).1 later)) h,
    )

row_weight : {n : _} (row : Row_of-Item n) → weight_of_row row ≡ weight_of_items (items-the_row-Item _ row)
row_weight end_of-Item = refl
row_weight (more_of-Item item rest) = ap (λ n. weight item + n) (row_weight rest)

rows_weight : {n : _} (rows : Row_of-Item-Choice-0-1 n) → weight_of_branches rows ≡ weight_of_lists (items-the_row-Item-Choice-0-1 _ rows)
rows_weight end_of-Item-Choice-0-1 = refl
rows_weight (more_of-Item-Choice-0-1 shape branch rest) =
    omega (arith, row_weight branch, ap weight_of_items (items_shown-the_row-Item-0 shape branch), rows_weight rest)

abbrev pub rows_of : Item → (n : Count) × Row_of-Item-Choice-0-1 n
rows_of (Choice' _ rows) = (_, rows)
rows_of _ = (_, end_of-Item-Choice-0-1)

module _ (v : Vec (Vec Item Global) Global) where
  pub Allows-Choice : (s : List ℕ) → Allows (Choice v) s ↔ SomeMatches v.items s
  Allows-Choice s = subst (λ bs. Allows (Choice v) s ↔ SomeMatches bs s) (items_hidden-the_row-Item-Choice-0-1-1 v) (some_matches (rows_of (Choice v)).1 s)

  pub weight-Choice : weight (Choice v) ≡ 1 + weight_of_lists v.items
  weight-Choice = ap (λ n. 1 + n) (rows_weight (rows_of (Choice v)).1 ∙ ap weight_of_lists (items_hidden-the_row-Item-Choice-0-1-1 v))

pub weight_pos : (item : Item) → 1 ≤ weight item
weight_pos (Choice' _ branches) = omega arith
weight_pos _ = omega arith
