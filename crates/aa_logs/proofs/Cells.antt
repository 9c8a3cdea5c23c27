-- One more in a cell of a table.
use Rattle.std.proofs.Common.{◌≡◌, ◌<◌, ◌≢◌, ℕ, List, [], length, set, get_or, Bool, true, false, cond, ◌+◌, ◌&&◌, refl, sym, ap, ◌∙◌, lit<, inl, inr}
use Rattle.std.specs.Prelude.{◌==◌, min}
use Rattle.std.proofs.lemmas.List.{get_or-set_same, get_or-set_other}
use Rattle.std.proofs.lemmas.Bool.{cases_Bool, eqb-true, eqb-false}
use Rattle.aa_logs.specs.declared.line.Then.{Then}
use Rattle.aa_logs.specs.declared.line.Then.TheVariants as was
use Rattle.aa_logs.specs.declared.answer.Now.{Now}
use Rattle.aa_logs.specs.declared.answer.Now.TheVariants as is
use Rattle.aa_logs.specs.Answers.{row_of, column_of}
use Rattle.aa_logs.specs.Counts.{count_in, is_so}

-- a cell of a table in which one was written
cell_of : (rows : List (List ℕ)) (r k i j v : ℕ) → r < length rows → k < length (get_or rows r []) → get_or (get_or (set rows r (set (get_or rows r []) k v)) i []) j 0 ≡ cond (r == i && k == j) v (get_or (get_or rows i []) j 0)
cell_of rows r k i j v in_rows in_row = elim (cases_Bool (r == i)) [
  | inl same ↦ (let as_row : i ≡ r = sym (eqb-true r i same) in
      let here : get_or (set rows r (set (get_or rows r []) k v)) i [] ≡ set (get_or rows r []) k v = ap
      (λ (n : ℕ). get_or (set rows r (set (get_or rows r []) k v)) n []) as_row ∙ get_or-set_same rows r (set (get_or rows r []) k v) [] in_rows in
      ap (λ (l : List ℕ). get_or l j 0) here
      ∙ (elim (cases_Bool (k == j)) [
        | inl alike ↦ (let at : j ≡ k = sym (eqb-true k j alike) in
            ap (λ (n : ℕ). get_or (set (get_or rows r []) k v) n 0) at ∙ get_or-set_same (get_or rows r []) k v 0 in_row
            ∙ sym (ap (λ (b : Bool). cond (b && k == j) v (get_or (get_or rows i []) j 0)) same ∙ ap (λ (b : Bool). cond b v (get_or (get_or rows i []) j 0)) alike))
        | inr unlike ↦ (let apart : j ≢ k = λ e. eqb-false k j unlike (sym e) in
            get_or-set_other (get_or rows r []) k j v 0 apart ∙ ap (λ (n : ℕ). get_or (get_or rows n []) j 0) (sym as_row)
            ∙ sym (ap (λ (b : Bool). cond (b && k == j) v (get_or (get_or rows i []) j 0)) same ∙ ap (λ (b : Bool). cond b v (get_or (get_or rows i []) j 0)) unlike))
      ]))
  | inr other ↦ (let apart : i ≢ r = λ e. eqb-false r i other (sym e) in
      ap (λ (l : List ℕ). get_or l j 0) (get_or-set_other rows r i (set (get_or rows r []) k v) [] apart)
      ∙ sym (ap (λ (b : Bool). cond (b && k == j) v (get_or (get_or rows i []) j 0)) other))
]

if_so : (s t : Bool) (x y z : ℕ) → (s ≡ true → t ≡ true → x ≡ y) → cond (s && t) x z ≡ cond (s && t) y z
if_so true true x y z e = e refl refl
if_so true false x y z e = refl
if_so false t x y z e = refl

pub row_small : (t : Then) → row_of t < 3
row_small was.Denied = lit< tt
row_small was.Allowed = lit< tt
row_small was.Granted = lit< tt

pub column_small : (n : Now) → column_of n < 4
column_small is.Denied = lit< tt
column_small is.Allowed = lit< tt
column_small is.Granted = lit< tt
column_small is.NoProfile = lit< tt

-- a table with one more for what was and is now so
pub one_in : (was : Then) (is : Now) (before : Then) (after : Now) (rows : List (List ℕ)) (r k : ℕ) (row : List ℕ) → r ≡ row_of was
    → k ≡ column_of is → r < length rows → k < length (get_or rows r [])
    → row ≡ set (get_or rows r []) k (min (get_or (get_or rows r []) k 0 + 1) 18446744073709551615)
    → count_in (row_of before) (column_of after) (set rows r row) ≡ cond (is_so before after was is) (min (count_in (row_of before) (column_of after) rows + 1) 18446744073709551615) (count_in (row_of before) (column_of after) rows)
one_in was is before after rows r k row r_is k_is in_rows in_row row_is =
    let i : ℕ = row_of before in
    let j : ℕ = column_of after in
    let more : ℕ → ℕ = λ n. min (n + 1) 18446744073709551615 in
    ap (λ (l : List ℕ). count_in i j (set rows r l)) row_is ∙ cell_of rows r k i j (more (get_or (get_or rows r []) k 0)) in_rows in_row
    ∙ if_so (r == i) (k == j) (more (get_or (get_or rows r []) k 0)) (more (count_in i j rows)) (count_in i j rows)
    (λ same alike. ap more
    (ap (λ (n : ℕ). get_or (get_or rows n []) k 0) (eqb-true r i same) ∙ ap (λ (n : ℕ). get_or (get_or rows i []) n 0) (eqb-true k j alike)))
    ∙ ap (λ (n : ℕ). cond (n == i && k == j) (more (count_in i j rows)) (count_in i j rows)) r_is
    ∙ ap (λ (n : ℕ). cond (row_of was == i && n == j) (more (count_in i j rows)) (count_in i j rows)) k_is
