-- Where compiling refuses a policy for a conflict, each policy that the same words spell has one there.
use Rattle.std.proofs.Common.{◌≡◌, ◌⊎◌, inl, inr, ⊎_elim, ℕ, ◌+◌, List, [], Some, sym, ap, subst, ◌∙◌}
use Rattle.std.specs.Prelude.{slice_get}
use Rattle.std.specs.List.{AllZip}
use Rattle.std.proofs.lemmas.Option.{same_Some}
use Rattle.aa_base.specs.declared.fault.Spot.{Spot}
use Rattle.aa_base.specs.declared.fault.PolicyFault.{PolicyFault}
use Rattle.aa_base.specs.declared.fault.PolicyKind.TheVariants.{ConflictingExec, TooManyStates}
use Rattle.aa_model.specs.declared.policy.Policy.{Policy}
use Rattle.aa_model.specs.declared.policy.Profile.{Profile}
use Rattle.aa_compile.specs.Rows.{patterns_of}
use Rattle.aa_compile.specs.FileRules.{Conflicts}
use Rattle.aa_compile.specs.Patterns.{HasAutomaton}
use Rattle.aa_explain.specs.Clashes.{executing}
use Rattle.aa_explain.proofs.Owning.{in_rules, places_of_some}
use Rattle.aa_auto.specs.Tables.{HasPlaces}
use Rattle.aa_compile.specs.Checks.{fault_at, IsRefused, ManyTops, AtProfile, ManyFiles, Conflicting, ManyChildren}
use Rattle.aa_words.specs.Splits.{WordData, Splits}
use Rattle.aa_policy.specs.Sameness.{SameProfile, SamePolicy}
use Rattle.aa_policy.specs.Spelling.{Spells}
use Rattle.aa_policy.proofs.Spelled.{spells_once}
use Rattle.aa_explain.specs.Places.{PlacesData, ArePlaces}
use Rattle.aa_files.specs.declared.unit.Unit as unit
use Rattle.aa_load.specs.UnitPolicy.{texts_of}
use Rattle.aa_diagnostics.specs.Conflicts.{HasNone, NoneHas, ShowsOne}
use Rattle.aa_diagnostics.specs.Further.{ShowsConflictAt, ShowsIfConflict}
use Rattle.aa_diagnostics.proofs.Few.{few_places}
use Rattle.aa_diagnostics.proofs.Alike.{got_alike, patterns_alike, conflict_alike, many_alike}

not_states : {A : Type 0} (at other : Spot) → fault_at ConflictingExec at ≡ fault_at TooManyStates other → A
not_states at other e = let k : ConflictingExec ≡ TooManyStates = ap (λ (f : PolicyFault). f.kind) e in cc

-- a profile of the one policy is refused, so that of the other has a conflict
has_one : (limit : ℕ) (p q : Profile) → SameProfile p q → SameProfile q p → HasAutomaton (patterns_of p.files) limit → Conflicts p.files → HasNone q (limit + 1) → ⊥
has_one limit p q to back automaton (a, b, text, conflict) none =
    let other = conflict_alike p.files q.files to.files a b text conflict in
    ⊎_elim
    (λ (free : Conflicts q.files → ⊥). free (other.0, other.1, text, other.2))
    (λ (many : HasPlaces (executing q.files) (limit + 1)).
    few_places (patterns_of p.files) limit automaton
    (many_alike (patterns_of q.files) (patterns_of p.files) (limit + 1) (patterns_alike q.files p.files back.files) (patterns_alike p.files q.files to.files)
    (places_of_some (executing q.files) (patterns_of q.files) (limit + 1) (in_rules q.files) many)))
    none

at_profile : (limit : ℕ) (ps qs : List Profile) (at : Spot) → AllZip SameProfile ps qs → AllZip SameProfile qs ps → (n : ℕ) (p : Profile)
    → slice_get ps n ≡ Some p → p.at ≡ at → HasAutomaton (patterns_of p.files) limit → Conflicts p.files → NoneHas qs at (limit + 1) → ⊥
at_profile limit ps qs at to back n p is stands automaton conflicts none =
    let q = got_alike SameProfile ps qs n p to is in
    let again = got_alike SameProfile qs ps n q.0 back q.1 in
    let same : again.0 ≡ p = same_Some again.0 p (sym again.1 ∙ is) in
    has_one limit p q.0 q.2 (subst (λ (x : Profile). SameProfile q.0 x) same again.2) automaton conflicts (none n q.0 q.1 (sym q.2.at ∙ stands))

pub own_conflict : (limit : ℕ) (p q : Policy) (at : Spot) → SamePolicy p q → SamePolicy q p → IsRefused p.profiles limit (fault_at ConflictingExec at) → NoneHas q.profiles at (limit + 1) → ⊥
own_conflict limit p q at to back (ManyTops e many) none = not_states at _ e
own_conflict limit p q at to back (AtProfile above r) none =
    elim r.fails [
      | ManyFiles e many ↦ not_states at _ e
      | Conflicting e automaton conflicts ↦ at_profile limit p.profiles q.profiles at to.profiles back.profiles r.number r.profile r.is (sym (ap (λ (f : PolicyFault). f.at) e)) automaton conflicts none
      | ManyChildren e automaton free many ↦ not_states at _ e
    ]

-- ---- what is shown

module _ (u : unit.Unit) (limit : ℕ) (at : Spot) (ws : List WordData) (policy : Policy) where
  pub shown_or_none : (places : List PlacesData) (lines : List (List ℕ)) → Splits (texts_of u) u.text.items ws → Spells ws policy → ArePlaces ws places
      → (NoneHas policy.profiles at (limit + 1) × (lines ≡ [])) ⊎ ShowsOne u policy.profiles places at lines → ShowsIfConflict limit u at lines
  shown_or_none places lines split spells placed h =
      elim h [
        | inl none ↦ inr (record { words = ws; split = split; policy = policy; spells = spells; none = none.0; are = none.1 })
        | inr one ↦ inl (record { words = ws; split = split; policy = policy; spells = spells; places = places; placed = placed; one = one })
      ]

  pub own_shown : (other : Policy) (places : List PlacesData) (lines : List (List ℕ)) → Splits (texts_of u) u.text.items ws → Spells ws policy → ArePlaces ws places → Spells ws other
      → IsRefused other.profiles limit (fault_at ConflictingExec at) → (NoneHas policy.profiles at (limit + 1) × (lines ≡ [])) ⊎ ShowsOne u policy.profiles places at lines → ShowsConflictAt u at lines
  own_shown other places lines split spells placed too refused h =
      elim h [
        | inl none ↦ absurd (own_conflict limit other policy at (spells_once ws other policy too spells) (spells_once ws policy other spells too) refused none.0)
        | inr one ↦ record { words = ws; split = split; policy = policy; spells = spells; places = places; placed = placed; one = one }
      ]
