-- Numbers of elements that pass, one more.
use Rattle.std.proofs.Common.{◌≡◌, ℕ, suc, ◌+◌, ◌<◌, ◌≤◌, List, [], ◌∷◌, ◌++◌, length, drop, get_or, map, Bool}
use Rattle.std.proofs.Common.{true, false, cond, refl, sym, ap, ◌∙◌, subst, Contains, arith, add-one, append_assoc, ⊎_elim}
use Rattle.std.proofs.lemmas.Bool.{cases_lt}
use Rattle.std.proofs.lemmas.List.{at_drop_more}
use Rattle.std.proofs.lemmas.List.Elements.{Contains-append_left, Contains-push, Contains-push_cases}
use Rattle.aa_compile.proofs.ConflictLemmas.{not_in}
use Rattle.aa_model.specs.declared.rule.Exec.{Exec}
use Rattle.aa_model.specs.declared.rule.FileRule.{FileRule}
use Rattle.aa_compile.specs.declared.mark.Way.{Way}
use Rattle.aa_redundancy.specs.declared.marks.RuleMark.{RuleMark}
use Rattle.aa_redundancy.specs.Marks.{rule_mark, marks_from}
use Rattle.aa_redundancy.specs.Plain.{positions_from, HasRows}

split : (b : Bool) (i : ℕ) (rest : List ℕ) → cond b (i ∷ rest) rest ≡ cond b (i ∷ []) [] ++ rest
split true i rest = refl
split false i rest = refl

pub positions_more : {X : Type 0} (test : X → Bool) (xs : List X) (i : ℕ) (x : X) (acc next total : List ℕ) → i < length xs → x ≡ get_or xs i x → next ≡ acc ++ cond (test x) (i ∷ []) []
    → acc ++ positions_from test i (drop i xs) ≡ total → next ++ positions_from test (i + 1) (drop (i + 1) xs) ≡ total
positions_more {X} test xs i x acc next total lt is e so_far =
    let rest = positions_from test (suc i) (drop (i + 1) xs) in
    let P : X → Type 0 = λ y. positions_from test i (drop i xs) ≡ cond (test y) (i ∷ rest) rest in
    let here : P x = subst P (sym is) (at_drop_more (positions_from test i) xs i x lt) in
    ap (λ (k : ℕ). next ++ positions_from test k (drop (i + 1) xs)) (add-one i)
    ∙ ap (λ (l : List ℕ). l ++ rest) e
    ∙ append_assoc acc (cond (test x) (i ∷ []) []) rest
    ∙ ap (λ (l : List ℕ). acc ++ l) (sym (here ∙ split (test x) i rest))
    ∙ so_far

pub no_rows : (f : ℕ → List ℕ) → HasRows f 0 []
no_rows f = record { each = λ row c. absurd (not_in row c); all = λ k lt. absurd (omega (arith, lt)) }

pub rows_more : (f : ℕ → List ℕ) (n : ℕ) (rows now : List (List ℕ)) (row : List ℕ) → now ≡ rows ++ row ∷ [] → row ≡ f n → HasRows f n rows → HasRows f (n + 1) now
rows_more f n rows now row e is has =
    subst (HasRows f (n + 1)) (sym e) (record {
      each = λ r c.
          ⊎_elim (λ (d : Contains rows r). let h = has.each r d in (h.0, omega (arith, h.1), h.2))
          (λ (s : row ≡ r). (n, omega arith, sym s ∙ is)) (Contains-push_cases rows row r c);
      all = λ k lt.
          ⊎_elim (λ (l : k < n). Contains-append_left rows (row ∷ []) (f k) (has.all k l))
          (λ (g : n ≤ k). let s : n ≡ k = omega (arith, lt, g) in subst (λ (i : ℕ). Contains (rows ++ row ∷ []) (f i)) s (subst (Contains (rows ++ row ∷ [])) is (Contains-push rows row)))
          (cases_lt k n);
    })

-- the marks of one rule more
pub marks_more : (number : Exec → Way) (rules : List FileRule) (i : ℕ) (r : FileRule) (acc next total : List RuleMark) → i < length rules → r ≡ get_or rules i r
    → next ≡ acc ++ map (rule_mark number i r) r.patterns → acc ++ marks_from number i (drop i rules) ≡ total → next ++ marks_from number (i + 1) (drop (i + 1) rules) ≡ total
marks_more number rules i r acc next total lt is e so_far =
    let rest = marks_from number (suc i) (drop (i + 1) rules) in
    let P : FileRule → Type 0 = λ x. marks_from number i (drop i rules) ≡ map (rule_mark number i x) x.patterns ++ rest in
    let here : P r = subst P (sym is) (at_drop_more (marks_from number i) rules i r lt) in
    ap (λ (k : ℕ). next ++ marks_from number k (drop (i + 1) rules)) (add-one i)
    ∙ ap (λ (l : List RuleMark). l ++ rest) e
    ∙ append_assoc acc (map (rule_mark number i r) r.patterns) rest
    ∙ ap (λ (l : List RuleMark). acc ++ l) (sym here)
    ∙ so_far
