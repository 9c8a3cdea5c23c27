-- Profiles of one policy have different names, and labels are alike or differ.
use Rattle.std.proofs.Common.{◌≡◌, ℕ, ◌<◌, ◌≤◌, List, get_or, length, Bool, true, false, true≢false, cond, Some, refl, sym, ap, ◌∙◌, arith, ⊎_elim}
use Rattle.std.specs.Prelude.{◌==◌, ◌&&◌}
use Rattle.std.specs.List.{IsDistinct, slice_get}
use Rattle.std.specs.Str.{bytes_eq}
use Rattle.std.proofs.lemmas.Bool.{cases_lt, eq-eqb}
use Rattle.std.proofs.lemmas.List.{get_or-map, length-map}
use Rattle.std.proofs.lemmas.Map.Keys.{apart_from_distinct}
use Rattle.std.proofs.lemmas.Option.{slice_get_within, get_or_from_slice_get}
use Rattle.std.proofs.lemmas.Slice.Eq.{bytes_eq-Decides}
use Rattle.aa_model.specs.Lawful.{names_of}
use Rattle.aa_model.specs.declared.policy.Profile.{Profile}
use Rattle.aa_model.specs.declared.label.Label.{Label}
use Rattle.aa_model.specs.declared.label.Label.TheVariants.{Unconfined, Confined}
use Rattle.aa_ask.specs.Told.{is_same}

pub itself : (l : Label) → is_same l l ≡ true
itself (Unconfined k) = eq-eqb k k refl
itself (Confined k n) = ap (λ (b : Bool). b && (n == n)) (eq-eqb k k refl) ∙ eq-eqb n n refl

-- of two tests, of which the second fails where the first does not
pub differ : (c x y : Bool) → (y ≡ true → x ≡ true) → (c && x) ≡ false → (c && y) ≡ false
differ false x y h e = refl
differ true x true h e = absurd (true≢false (sym (h refl) ∙ e))
differ true x false h e = refl

module _ (ps : List Profile) where
  name_at : (i : ℕ) (p : Profile) (d : List ℕ) → slice_get ps i ≡ Some p → get_or (names_of ps) i d ≡ p.name
  name_at i p d e =
      get_or-map (λ (q : Profile). q.name) ps i p d (slice_get_within ps i p e)
      ∙ ap (λ (q : Profile). q.name) (get_or_from_slice_get ps i p p e)

  not_before : IsDistinct bytes_eq (names_of ps) → (i j : ℕ) (p q : Profile) → slice_get ps i ≡ Some p → slice_get ps j ≡ Some q
      → p.name ≡ q.name → i < j → ⊥
  not_before distinct i j p q e f same lt =
      let within : j < length (names_of ps) = omega (arith, slice_get_within ps j q f, length-map ps (λ (r : Profile). r.name)) in
      let apart : bytes_eq (get_or (names_of ps) i p.name) (get_or (names_of ps) j p.name) ≡ false =
      apart_from_distinct bytes_eq (names_of ps) i j p.name distinct lt within in
      let alike : get_or (names_of ps) i p.name ≡ get_or (names_of ps) j p.name = name_at i p p.name e ∙ same ∙ sym (name_at j q p.name f) in
      true≢false (sym ((bytes_eq-Decides (get_or (names_of ps) i p.name) (get_or (names_of ps) j p.name)).1 alike) ∙ apart)

  pub same_number : IsDistinct bytes_eq (names_of ps) → (i j : ℕ) (p q : Profile) → slice_get ps i ≡ Some p → slice_get ps j ≡ Some q
      → p.name ≡ q.name → i ≡ j
  same_number distinct i j p q e f same =
      ⊎_elim
      (λ (lt : i < j). absurd (not_before distinct i j p q e f same lt))
      (λ (le : j ≤ i).
      ⊎_elim
      (λ (lt : j < i). absurd (not_before distinct j i q p f e (sym same) lt))
      (λ (ge : i ≤ j). omega (arith, le, ge))
      (cases_lt j i))
      (cases_lt i j)
