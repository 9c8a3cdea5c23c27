-- Which rules are new, by what they say.
use Rattle.std.proofs.Common.{◌≡◌, ℕ, zero, suc, ◌+◌, ◌<◌, List, [], ◌∷◌, ◌++◌, map, length, take, get_or, Bool, true, false, not}
use Rattle.std.proofs.Common.{Some, refl, sym, ap, ◌∙◌, arith}
use Rattle.std.proofs.Common.{Contains, ⊎_elim, true≢false, subst}
use Rattle.std.specs.Prelude.{option_map}
use Rattle.std.specs.List.{list_any, slice_get, range_with_len}
use Rattle.std.specs.List.Sorted.{IsStrictlyIncreasing}
use Rattle.std.specs.Str.{bytes_eq}
use Rattle.std.proofs.lemmas.List.{length-map}
use Rattle.std.proofs.lemmas.List.Elements.{Contains-append_left, Contains-append_right, Contains-append_cases}
use Rattle.std.proofs.lemmas.List.FromFn.{length-range_with_len, get_or-range_with_len}
use Rattle.std.proofs.lemmas.List.Kept.{IsStrictlyIncreasing-filter}
use Rattle.std.proofs.lemmas.Option.{slice_get-map, slice_get_within, get_or_from_slice_get}
use Rattle.aa_model.specs.declared.policy.Profile.{Profile}
use Rattle.aa_changed_rules.specs.Forms.{file_form, cap_form, net_form, change_form}
use Rattle.aa_changed_rules.specs.Sameness.{SameFileRule, SameCapRule, SameNetRule, SameChangeRule}
use Rattle.aa_changed_rules.specs.Changed.{is_new, alone, IsNew, ListsNew, AreChanged}
use Rattle.aa_changed_rules.proofs.Elements.{in_map, map_in, take_in, in_take, in_filter, filter_in, in_range, range_in}
use Rattle.aa_changed_rules.proofs.Telling.{any_of, of_any, file_told, file_same, cap_told, cap_same, net_told, net_same, change_told, change_same}

rises : (n : ℕ) → IsStrictlyIncreasing (range_with_len 0 n)
rises n k lt =
    let within : k + 1 < n = omega (arith, lt, length-range_with_len 0 n) in
    omega (arith, get_or-range_with_len 0 n k 0 (omega (arith, within)), get_or-range_with_len 0 n (k + 1) 0 within)

turned : (b : Bool) → not b ≡ true → b ≡ false
turned true e = absurd (true≢false (sym e))
turned false e = refl

unless : (b : Bool) → (b ≡ true → ⊥) → not b ≡ true
unless true f = absurd (f refl)
unless false f = refl

got : {X : Type 0} (xs : List X) (n : ℕ) → n < length xs → (x : X) × (slice_get xs n ≡ Some x)
got [] n lt = absurd (omega (arith, lt))
got (x ∷ xs) zero lt = (x, refl)
got (x ∷ xs) (suc n) lt = got xs n (omega (arith, lt))

-- rules of which two have one form exactly where they say the same
module _ {R : Type 0} (Same : R → R → Type 0) (form : R → List ℕ)
    (told : (r s : R) → form r ≡ form s → Same r s) (same : (r s : R) → Same r s → form r ≡ form s)
    (others rules : List R) where
  form_at : (n : ℕ) (rule : R) → slice_get rules n ≡ Some rule → get_or (map form rules) n [] ≡ form rule
  form_at n rule e = get_or_from_slice_get (map form rules) n (form rule) [] (slice_get-map form rules n ∙ ap (option_map form) e)

  -- what the others and the earlier ones say
  abbrev said : ℕ → List (List ℕ)
  said n = map form others ++ take n (map form rules)

  new_is : (n : ℕ) → n < length rules → is_new (map form others) (map form rules) n ≡ true → IsNew Same others rules n
  new_is n lt e =
      let rule = got rules n lt in
      let none : list_any (bytes_eq (form rule.0)) (said n) ≡ false =
      ap (λ (f : List ℕ). list_any (bytes_eq f) (said n)) (sym (form_at n rule.0 rule.1))
      ∙ turned (list_any (bytes_eq (get_or (map form rules) n [])) (said n)) e in record {
        rule = rule.0;
        there = rule.1;
        lacking = λ other c s.
            let here = subst (Contains (map form others)) (sym (same rule.0 other s)) (in_map form others other c) in
            true≢false (sym (any_of (form rule.0) (said n) (Contains-append_left (map form others) (take n (map form rules)) (form rule.0) here)) ∙ none);
        first = λ k earlier less at s.
            let here = subst (Contains (take n (map form rules))) (sym (same rule.0 earlier s)) (in_take form rules n k earlier less at) in
            true≢false (sym (any_of (form rule.0) (said n) (Contains-append_right (map form others) (take n (map form rules)) (form rule.0) here)) ∙ none);
      }

  is_new_by : (n : ℕ) → IsNew Same others rules n → is_new (map form others) (map form rules) n ≡ true
  is_new_by n new = unless (list_any (bytes_eq (get_or (map form rules) n [])) (said n)) none
    where
      none : list_any (bytes_eq (get_or (map form rules) n [])) (said n) ≡ true → ⊥
      none e =
          let f = form new.rule in
          let c : Contains (said n) f = of_any f (said n) (ap (λ (g : List ℕ). list_any (bytes_eq g) (said n)) (sym (form_at n new.rule new.there)) ∙ e) in
          ⊎_elim
          (λ (l : Contains (map form others) f). let r = map_in form others f l in new.lacking r.0 r.1 (told new.rule r.0 (sym r.2)))
          (λ (h : Contains (take n (map form rules)) f).
          let r = take_in form rules n f h in new.first r.0 r.2.0 r.1 r.2.1 (told new.rule r.2.0 (sym r.2.2)))
          (Contains-append_cases (map form others) (take n (map form rules)) f c)

  lists_new : ListsNew Same others rules (alone (map form others) (map form rules))
  lists_new =
      let p = is_new (map form others) (map form rules) in
      let count = length (map form rules) in
      let many : count ≡ length rules = length-map rules form in
      let within : (n : ℕ) → IsNew Same others rules n → n < count =
      λ n new. omega (arith, slice_get_within rules n new.rule new.there, many) in record {
        rising = IsStrictlyIncreasing-filter p (range_with_len 0 count) (rises count);
        each = λ n. (
          λ c. let r = filter_in p (range_with_len 0 count) n c in new_is n (omega (arith, range_in count n r.0, many)) r.1,
          λ new. in_filter p (range_with_len 0 count) n (in_range count n (within n new)) (is_new_by n new),
        );
      }

-- the numbers of slices are those of the lists
pub sliced : {R : Type 0} (form : R → List ℕ) (rs ss rules others : List R) (numbers : List ℕ) → rs ≡ rules → ss ≡ others
    → numbers ≡ alone (map form ss) (map form rs) → numbers ≡ alone (map form others) (map form rules)
sliced {R} form rs ss rules others numbers a b e =
    e ∙ ap (λ (xs : List R). alone (map form ss) (map form xs)) a ∙ ap (λ (xs : List R). alone (map form xs) (map form rules)) b

-- so of each list of a profile
pub told_by : (p q : Profile) (files caps nets changes : List ℕ)
    → files ≡ alone (map file_form q.files) (map file_form p.files) → caps ≡ alone (map cap_form q.caps) (map cap_form p.caps)
    → nets ≡ alone (map net_form q.nets) (map net_form p.nets) → changes ≡ alone (map change_form q.changes) (map change_form p.changes)
    → AreChanged p q (record { files = files; caps = caps; nets = nets; changes = changes })
told_by p q files caps nets changes a b c d = record {
  files = subst (ListsNew SameFileRule q.files p.files) (sym a) (lists_new SameFileRule file_form file_told file_same q.files p.files);
  caps = subst (ListsNew SameCapRule q.caps p.caps) (sym b) (lists_new SameCapRule cap_form cap_told cap_same q.caps p.caps);
  nets = subst (ListsNew SameNetRule q.nets p.nets) (sym c) (lists_new SameNetRule net_form net_told net_same q.nets p.nets);
  changes = subst (ListsNew SameChangeRule q.changes p.changes) (sym d)
      (lists_new SameChangeRule change_form change_told change_same q.changes p.changes);
}
