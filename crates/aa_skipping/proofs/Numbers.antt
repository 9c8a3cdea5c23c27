-- Profiles by their full names.
use Rattle.std.proofs.Common.{◌≡◌, ℕ, ◌<◌, ◌≤◌, List, get_or, length, Bool, false, true≢false, Some, None, refl, sym, ap, ◌∙◌, subst, arith, ⊎_elim}
use Rattle.std.specs.Prelude.{nat_lt}
use Rattle.std.specs.List.{IsDistinct, slice_get, position_or_len}
use Rattle.std.specs.Str.{bytes_eq}
use Rattle.std.proofs.lemmas.Bool.{cases_lt, ltb-true}
use Rattle.std.proofs.lemmas.List.{get_or-map, length-map}
use Rattle.std.proofs.lemmas.List.Quantifiers.{position-Some}
use Rattle.std.proofs.lemmas.Map.Keys.{apart_from_distinct}
use Rattle.std.proofs.lemmas.Option.{cond_some, slice_get_within, get_or_from_slice_get, slice_get-get_or, slice_get_cases}
use Rattle.std.proofs.lemmas.Slice.Eq.{bytes_eq-Decides}
use Rattle.aa_model.specs.declared.policy.Profile.{Profile}
use Rattle.aa_model.specs.Lawful.{names_of}
use Rattle.aa_compile.specs.Transitions.{named}
use Rattle.aa_compile.proofs.WayLemmas.{found}
use Rattle.aa_compile.proofs.ConflictLemmas.{got_in}

pub there : {X : Type 0} (xs : List X) (n : ℕ) → n < length xs → (x : X) × (slice_get xs n ≡ Some x)
there xs n lt =
    ⊎_elim
    (λ (h : (x : _) × (n < length xs) × (slice_get xs n ≡ Some x) × (get_or xs n x ≡ x)). (h.0, h.2))
    (λ (h : (length xs ≤ n) × (slice_get xs n ≡ None)). absurd (omega (arith, lt, h.0)))
    (slice_get_cases xs n).1

module _ (ps : List Profile) where
  name_at : (i : ℕ) (p : Profile) (d : List ℕ) → slice_get ps i ≡ Some p → get_or (names_of ps) i d ≡ p.name
  name_at i p d e = get_or-map (λ (q : Profile). q.name) ps i p d (slice_get_within ps i p e) ∙ ap (λ (q : Profile). q.name) (get_or_from_slice_get ps i p p e)

  not_before : IsDistinct bytes_eq (names_of ps) → (i j : ℕ) (p q : Profile) → slice_get ps i ≡ Some p → slice_get ps j ≡ Some q → p.name ≡ q.name → i < j → ⊥
  not_before distinct i j p q e f same lt =
      let within : j < length (names_of ps) = omega (arith, slice_get_within ps j q f, length-map ps (λ (r : Profile). r.name)) in
      let apart : bytes_eq (get_or (names_of ps) i p.name) (get_or (names_of ps) j p.name) ≡ false = apart_from_distinct bytes_eq (names_of ps) i j p.name distinct lt within in
      let alike : get_or (names_of ps) i p.name ≡ get_or (names_of ps) j p.name = name_at i p p.name e ∙ same ∙ sym (name_at j q p.name f) in
      true≢false (sym ((bytes_eq-Decides (get_or (names_of ps) i p.name) (get_or (names_of ps) j p.name)).1 alike) ∙ apart)

  pub same_number : IsDistinct bytes_eq (names_of ps) → (i j : ℕ) (p q : Profile) → slice_get ps i ≡ Some p → slice_get ps j ≡ Some q → p.name ≡ q.name → i ≡ j
  same_number distinct i j p q e f same =
      ⊎_elim
      (λ (lt : i < j). absurd (not_before distinct i j p q e f same lt))
      (λ (le : j ≤ i).
      ⊎_elim
      (λ (lt : j < i). absurd (not_before distinct j i q p f e (sym same) lt))
      (λ (ge : i ≤ j). omega (arith, le, ge))
      (cases_lt j i))
      (cases_lt i j)

  -- a profile is found by its name
  pub named_at : IsDistinct bytes_eq (names_of ps) → (j : ℕ) (q : Profile) → slice_get ps j ≡ Some q → named ps q.name ≡ Some j
  named_at distinct j q e =
      let t = found (λ (p : Profile). bytes_eq q.name p.name) ps q (got_in ps j q e) ((bytes_eq-Decides q.name q.name).1 refl) in
      let x = position-Some (λ (p : Profile). bytes_eq q.name p.name) ps t.0 q t.1 in
      let r : Profile = get_or ps t.0 q in
      let same : t.0 ≡ j = same_number distinct t.0 j r q (slice_get-get_or ps t.0 q x.0) e (sym ((bytes_eq-Decides q.name r.name).0 x.1)) in
      t.1 ∙ ap Some same

  -- and what is found has the name
  pub named_some : (name : List ℕ) (n : ℕ) → named ps name ≡ Some n → (p : Profile) × (slice_get ps n ≡ Some p) × (p.name ≡ name)
  named_some name n e =
      let test : Profile → Bool = λ (p : Profile). bytes_eq name p.name in
      let q = cond_some (nat_lt (position_or_len test ps) (length ps)) (position_or_len test ps) n e in
      let lt : n < length ps = subst (λ (m : ℕ). m < length ps) q.1 (ltb-true (position_or_len test ps) (length ps) q.0) in
      let t = there ps n lt in
      let x = position-Some test ps n t.0 e in
      let own : get_or ps n t.0 ≡ t.0 = get_or_from_slice_get ps n t.0 t.0 t.1 in
      (t.0, t.1, sym ((bytes_eq-Decides name t.0.name).0 (ap test (sym own) ∙ x.1)))
