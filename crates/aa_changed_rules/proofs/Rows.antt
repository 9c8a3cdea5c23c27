-- The numbers of a choice by the lists of its branches.
use Rattle.std.proofs.Common.{◌≡◌, ℕ, List, [], ◌∷◌, ◌++◌, Vec, Global, refl, sym, ap, ◌∙◌}
use Rattle.aa_pattern.specs.declared.item.Item.{Item, Choice, Row_of-Item, end_of-Item, more_of-Item, items-the_row-Item, items_shown-the_row-Item-0}
use Rattle.aa_pattern.specs.declared.item.Item.{Row_of-Item-Choice-0-1, end_of-Item-Choice-0-1, more_of-Item-Choice-0-1, items-the_row-Item-Choice-0-1}
use Rattle.aa_pattern.specs.declared.item.Item.{items_hidden-the_row-Item-Choice-0-1-1}
use Rattle.aa_pattern.proofs.Rows.{rows_of}
use Rattle.aa_changed_rules.specs.Codes.{item_code, rows_code, row_code, items_code, branches_code}

row_is : {n : _} (row : Row_of-Item n) → row_code row ≡ items_code (items-the_row-Item _ row)
row_is end_of-Item = refl
row_is (more_of-Item item rest) = ap (λ (ns : List ℕ). item_code item ++ ns) (row_is rest)

rows_are : {n : _} (rows : Row_of-Item-Choice-0-1 n) → rows_code rows ≡ branches_code (items-the_row-Item-Choice-0-1 _ rows)
rows_are end_of-Item-Choice-0-1 = refl
rows_are (more_of-Item-Choice-0-1 shape branch rest) =
    ap (λ (ns : List ℕ). (8 ∷ (row_code branch ++ 0 ∷ [])) ++ ns) (rows_are rest)
    ∙ ap (λ (ns : List ℕ). (8 ∷ (ns ++ 0 ∷ [])) ++ branches_code (items-the_row-Item-Choice-0-1 _ rest))
    (row_is branch ∙ ap items_code (sym (items_shown-the_row-Item-0 shape branch)))

pub choice_code : (v : Vec (Vec Item Global) Global) → item_code (Choice v) ≡ 7 ∷ (branches_code v.items ++ 0 ∷ [])
choice_code v = ap (λ (ns : List ℕ). 7 ∷ (ns ++ 0 ∷ [])) (rows_are (rows_of (Choice v)).1 ∙ ap branches_code (items_hidden-the_row-Item-Choice-0-1-1 v))
