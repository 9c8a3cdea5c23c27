-- Rows of one rule each.
use Rattle.std.proofs.Common.{◌≡◌, ℕ, ◌+◌, ◌<◌, ◌≤◌, List, [], ◌∷◌, ◌++◌, length, get_or, Bool, true, false, true≢false, Option, Some, inl, refl, sym, ap, ◌∙◌, subst, arith, ⊎_elim}
use Rattle.std.proofs.lemmas.Bool.{cases_lt}
use Rattle.std.proofs.lemmas.List.{get_or_append_left, get_or_push, length_push}
use Rattle.std.proofs.lemmas.Option.{slice_get-get_or, get_or_from_slice_get}
use Rattle.std.specs.List.{slice_get, cons_option}
use Rattle.aa_compile.specs.Gathered.{picked}
use Rattle.aa_redundancy.specs.declared.marks.RuleMark.{RuleMark}
use Rattle.aa_redundancy.specs.declared.saying.Saying.{Saying}
use Rattle.aa_redundancy.specs.declared.tables.Table.{Table}
use Rattle.aa_redundancy.specs.Covering.{Within}
use Rattle.aa_redundancy.specs.Marks.{plain_mark, said_by}
use Rattle.aa_redundancy.specs.Plain.{HasRows}
use Rattle.aa_redundancy.specs.Tables.{Equal, Decides}
use Rattle.aa_redundancy.specs.Kept.{GoneAlike, GoneWithin}

-- what the mark of one rule says, by whether that is gone
abbrev said_one : Bool → Bool → Saying
said_one owned g = said_by (λ (n : ℕ). g) owned (plain_mark 0 false false ∷ [])

alike_one : (g h : Bool) → said_one true g ≡ said_one true h → g ≡ h
alike_one true true e = refl
alike_one false false e = refl
alike_one true false e = absurd (omega (arith, ap (λ (s : Saying). s.rights.granted.0) e))
alike_one false true e = absurd (omega (arith, ap (λ (s : Saying). s.rights.granted.0) e))

within_one : (owned g h : Bool) → (g ≡ false → h ≡ false) → Within (said_one owned g) (said_one owned h)
within_one true true true so = ((refl, refl), inl refl)
within_one true true false so = ((refl, refl), inl refl)
within_one true false false so = ((refl, refl), inl refl)
within_one true false true so = absurd (true≢false (so refl))
within_one false true true so = ((refl, refl), inl refl)
within_one false true false so = ((refl, refl), inl refl)
within_one false false false so = ((refl, refl), inl refl)
within_one false false true so = absurd (true≢false (so refl))

one_within : (g h : Bool) → Within (said_one true g) (said_one true h) → g ≡ false → h ≡ false
one_within true h w e = absurd (true≢false e)
one_within false false w e = refl
one_within false true w e = absurd (omega (arith, w.0.0))

row_says : (marks : List RuleMark) (gone : ℕ → Bool) (owned : Bool) (n : ℕ) → slice_get marks n ≡ Some (plain_mark n false false)
    → said_by gone owned (picked marks (n ∷ [])) ≡ said_one owned (gone n)
row_says marks gone owned n e = ap (λ (o : Option RuleMark). said_by gone owned (cons_option o [])) e

-- the mark of one rule more
pub mark_more : (number : ℕ) (marks now : List RuleMark) (m : RuleMark) → now ≡ marks ++ m ∷ [] → m ≡ plain_mark number false false → length marks ≡ number
    → ((n : ℕ) → n < number → slice_get marks n ≡ Some (plain_mark n false false)) → (n : ℕ) → n < number + 1 → slice_get now n ≡ Some (plain_mark n false false)
mark_more number marks now m e is many before n lt =
    let long : length now ≡ number + 1 = ap length e ∙ length_push marks m ∙ ap (λ (k : ℕ). k + 1) many in
    let within : n < length now = omega (arith, lt, long) in
    let at : get_or (marks ++ m ∷ []) n m ≡ plain_mark n false false =
    ⊎_elim
    (λ (less : n < number).
    get_or_append_left marks (m ∷ []) m n (omega (arith, less, many)) ∙ get_or_from_slice_get marks n (plain_mark n false false) m (before n less))
    (λ (le : number ≤ n).
    let here : number ≡ n = omega (arith, lt, le) in
    get_or_push marks m m n (many ∙ here) ∙ is ∙ ap (λ (k : ℕ). plain_mark k false false) here)
    (cases_lt n number) in
    slice_get-get_or now n m within ∙ ap (λ (x : RuleMark). Some x) (ap (λ (l : List RuleMark). get_or l n m) e ∙ at)

module _ (count : ℕ) (t : Table) (marks : (n : ℕ) → n < count → slice_get t.marks.items n ≡ Some (plain_mark n false false))
    (rows : HasRows (λ n. n ∷ []) count t.rows.items) where
  abbrev says : (ℕ → Bool) → Bool → List ℕ → Saying
  says gone owned row = said_by gone owned (picked t.marks.items row)

  one_says : (gone : ℕ → Bool) (owned : Bool) (n : ℕ) → n < count → says gone owned (n ∷ []) ≡ said_one owned (gone n)
  one_says gone owned n lt = row_says t.marks.items gone owned n (marks n lt)

  pub singles_alike : Decides Equal t (GoneAlike count)
  singles_alike = record {
    same = λ gone others related n lt.
        alike_one (gone n) (others n) (sym (one_says gone true n lt) ∙ (related (n ∷ []) (rows.all n lt) true ∙ one_says others true n lt));
    told = λ gone others holds row c owned.
        let h = rows.each row c in
        subst (λ (r : List ℕ). says gone owned r ≡ says others owned r) (sym h.2)
        (one_says gone owned h.0 h.1 ∙ (ap (said_one owned) (holds h.0 h.1) ∙ sym (one_says others owned h.0 h.1)));
  }

  pub singles_within : Decides Within t (GoneWithin count)
  singles_within = record {
    same = λ gone others related n lt.
        one_within (gone n) (others n)
        (subst (λ (s : Saying). Within s (said_one true (others n))) (one_says gone true n lt)
        (subst (λ (s : Saying). Within (says gone true (n ∷ [])) s) (one_says others true n lt) (related (n ∷ []) (rows.all n lt) true)));
    told = λ gone others holds row c owned.
        let h = rows.each row c in
        subst (λ (r : List ℕ). Within (says gone owned r) (says others owned r)) (sym h.2)
        (subst (λ (s : Saying). Within s (says others owned (h.0 ∷ []))) (sym (one_says gone owned h.0 h.1))
        (subst (λ (s : Saying). Within (said_one owned (gone h.0)) s) (sym (one_says others owned h.0 h.1))
        (within_one owned (gone h.0) (others h.0) (holds h.0 h.1))));
  }
