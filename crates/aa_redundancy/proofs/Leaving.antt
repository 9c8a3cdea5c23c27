-- Places that are left out, one after another.
use Rattle.std.proofs.Common.{◌≡◌, ℕ, ◌+◌, ◌-◌, ◌<◌, ◌≤◌, List, get_or, length, Bool, true, false, true≢false, sym, ap, ◌∙◌, subst, refl, arith, ⊎_elim}
use Rattle.std.specs.Prelude.{◌||◌}
use Rattle.std.proofs.lemmas.Bool.{cases_lt, eqb-true}
use Rattle.std.proofs.lemmas.List.{get_or_default}
use Rattle.std.proofs.lemmas.Map.Views.{Contains-from_any}
use Rattle.aa_redundancy.specs.Reasons.{is_one_of}
use Rattle.aa_redundancy.specs.Keeping.{IsNeeded, unmarked}

-- of so many kept places the last ones were looked at: some was left out, or each of them is needed
pub record LeftOut (A : (ℕ → Bool) → (ℕ → Bool) → Type 0) (i : ℕ) (first : List Bool) (kept : List ℕ) (count done : ℕ) (some : Bool) (gone : List Bool) : Type 0 where
  pub fewer : some ≡ true → unmarked gone < unmarked first
  pub same : some ≡ false → gone ≡ first
  pub needed : some ≡ false → (k : ℕ) → count - done ≤ k → k < count → IsNeeded A i first (get_or kept k 0)

module _ (A : (ℕ → Bool) → (ℕ → Bool) → Type 0) (i : ℕ) (first : List Bool) (kept : List ℕ) (count : ℕ) where
  pub none_left_out : LeftOut A i first kept count 0 false first
  none_left_out = record {
    fewer = λ e. absurd (true≢false (sym e));
    same = λ e. refl;
    needed = λ e k le lt. absurd (omega (arith, le, lt));
  }

  module _ (done : ℕ) (gone next : List Bool) (lt : done < count) where
    at : (some left : Bool) → LeftOut A i first kept count done some gone → (left ≡ true → unmarked next < unmarked gone) → (left ≡ false → next ≡ gone)
        → (left ≡ false → IsNeeded A i gone (get_or kept (count - 1 - done) 0)) → LeftOut A i first kept count (done + 1) (some || left) next
    at true true old f s n = record {
      fewer = λ e. let g = f refl in let h = old.fewer refl in omega (arith, g, h);
      same = λ e. absurd (true≢false e);
      needed = λ e. absurd (true≢false e);
    }
    at true false old f s n = record {
      fewer = λ e. let g = ap unmarked (s refl) in let h = old.fewer refl in omega (arith, g, h);
      same = λ e. absurd (true≢false e);
      needed = λ e. absurd (true≢false e);
    }
    at false true old f s n = record {
      fewer = λ e. let g = f refl in let h = ap unmarked (old.same refl) in omega (arith, g, h);
      same = λ e. absurd (true≢false e);
      needed = λ e. absurd (true≢false e);
    }
    at false false old f s n = record {
      fewer = λ e. absurd (true≢false (sym e));
      same = λ e. s refl ∙ old.same refl;
      needed = λ e k le less.
          ⊎_elim
          (λ (l : k < count - done).
          let last : count - 1 - done ≡ k = omega (arith, l, le, lt) in
          subst (λ (j : ℕ). IsNeeded A i first (get_or kept j 0)) last (subst (λ (fs : List Bool). IsNeeded A i fs (get_or kept (count - 1 - done) 0)) (old.same refl) (n refl)))
          (λ (g : count - done ≤ k). old.needed refl k g less) (cases_lt k (count - done));
    }

    -- one more is looked at
    pub left_more : (some left now : Bool) → now ≡ (some || left) → LeftOut A i first kept count done some gone → (left ≡ true → unmarked next < unmarked gone) → (left ≡ false → next ≡ gone)
        → (left ≡ false → IsNeeded A i gone (get_or kept (count - 1 - done) 0)) → LeftOut A i first kept count (done + 1) now next
    left_more some left now e old f s n = subst (λ (b : Bool). LeftOut A i first kept count (done + 1) b next) (sym e) (at some left old f s n)

  -- all were looked at
  pub all_needed : (done : ℕ) (some : Bool) (gone : List Bool) → length kept ≡ count → count ≤ done → LeftOut A i first kept count done some gone
      → some ≡ false → (n : ℕ) → is_one_of kept n ≡ true → IsNeeded A i gone n
  all_needed done some gone many le out e n is =
      let c = Contains-from_any eqb-true n kept is in
      subst (λ (fs : List Bool). IsNeeded A i fs n) (sym (out.same e))
      (subst (λ (m : ℕ). IsNeeded A i first m) (get_or_default kept c.0 0 n c.1 ∙ c.2) (out.needed e c.0 (omega (arith, le)) (let lt = c.1 in omega (arith, lt, many))))
