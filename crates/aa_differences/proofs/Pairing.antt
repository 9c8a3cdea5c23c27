-- Labels that are called the same are found by their profiles' names, and others are answered alike.
use Rattle.std.proofs.Common.{◌≡◌, ℕ, ◌<◌, ◌≤◌, ◌⊎◌, inl, inr, max, List, [], ◌∷◌, ◌++◌, length, get_or, Bool, true, false}
use Rattle.std.proofs.Common.{cond, Option, Some, None, Contains, refl, sym, ap, ◌∙◌, subst, arith, rules, tests, ⊎_elim}
use Rattle.std.specs.Prelude.{nat_lt}
use Rattle.std.specs.List.{slice_get, IsDistinct, position_or_len}
use Rattle.std.specs.Option.{option_and_then}
use Rattle.std.specs.Str.{bytes_eq}
use Rattle.std.proofs.lemmas.Bool.{cases_lt}
use Rattle.std.proofs.lemmas.List.{get_or-map, length-map}
use Rattle.std.proofs.lemmas.List.Elements.{Contains-append_left, Contains-push, Contains-push_cases}
use Rattle.std.proofs.lemmas.List.Quantifiers.{position-Some}
use Rattle.std.proofs.lemmas.List.Sums.{position_or_len_is}
use Rattle.std.proofs.lemmas.Map.Keys.{apart_from_distinct}
use Rattle.std.proofs.lemmas.Option.{same_Some, slice_get_past, slice_get_within, slice_get-get_or, get_or_from_slice_get}
use Rattle.std.proofs.lemmas.Slice.Eq.{bytes_eq-Decides}
use Rattle.aa_model.specs.Lawful.{names_of}
use Rattle.aa_model.specs.declared.policy.Policy.{Policy}
use Rattle.aa_model.specs.declared.policy.Profile.{Profile}
use Rattle.aa_model.specs.declared.label.Label.{Label}
use Rattle.aa_model.specs.declared.label.Label.TheVariants.{Unconfined, Confined}
use Rattle.aa_model.specs.declared.answer.Answer.{Answer}
use Rattle.aa_model.specs.declared.request.Request.{Request}
use Rattle.aa_compile.specs.Labels.{profile_in, policy_number}
use Rattle.aa_compile.specs.Transitions.{named}
use Rattle.aa_mediate.specs.Reply.{goes_to, reply_at, reply_by, reply}
use Rattle.aa_differences.specs.declared.labels.Labels.{Labels}
use Rattle.aa_differences.specs.Same.{name_of, SameLabel, SameAnswer, AnsweredAlike}
use Rattle.aa_differences.specs.Pairs.{AddsPairs, HasPairsAt}

is_false : (b : Bool) → (b ≡ true → ⊥) → b ≡ false
is_false true f = absurd (f refl)
is_false false f = refl

-- a profile is the first of its name
pub named_is : (profiles : List Profile) → IsDistinct bytes_eq (names_of profiles) → (j : ℕ) (q : Profile) → slice_get profiles j ≡ Some q → named profiles q.name ≡ Some j
named_is profiles distinct j q e =
    let within : j < length profiles = slice_get_within profiles j q e in
    let here : get_or profiles j q ≡ q = get_or_from_slice_get profiles j q q e in
    let before : (k : ℕ) → k < j → bytes_eq q.name (get_or profiles k q).name ≡ false = λ k lt.
    let early : k < length profiles = omega (arith, lt, within) in
    let inside : j < length (names_of profiles) = omega (arith, within, length-map profiles (λ (p : Profile). p.name)) in
    let apart : bytes_eq (get_or (names_of profiles) k q.name) (get_or (names_of profiles) j q.name) ≡ false = apart_from_distinct bytes_eq (names_of profiles) k j q.name distinct lt inside in
    let one : get_or (names_of profiles) k q.name ≡ (get_or profiles k q).name = get_or-map (λ (p : Profile). p.name) profiles k q q.name early in
    let other : get_or (names_of profiles) j q.name ≡ q.name = get_or-map (λ (p : Profile). p.name) profiles j q q.name within ∙ ap (λ (p : Profile). p.name) here in
    is_false (bytes_eq q.name (get_or profiles k q).name) (λ same.
    let equal : bytes_eq (get_or (names_of profiles) k q.name) (get_or (names_of profiles) j q.name) ≡ true =
    (bytes_eq-Decides (get_or (names_of profiles) k q.name) (get_or (names_of profiles) j q.name)).1 (one ∙ sym ((bytes_eq-Decides q.name (get_or profiles k q).name).0 same) ∙ sym other) in
    cc)
    in
    let first : position_or_len (λ (p : Profile). bytes_eq q.name p.name) profiles ≡ j =
    position_or_len_is (λ (p : Profile). bytes_eq q.name p.name) profiles j q (omega (arith, within)) before (λ _. (bytes_eq-Decides q.name (get_or profiles j q).name).1 (ap (λ (p : Profile). p.name) (sym here))) in
    ap (λ (m : ℕ). cond (nat_lt m (length profiles)) (Some m) None) first ∙ search (rules, tests)

-- the profile of that name in a policy
pub called_there : (o : Option Policy) (j : ℕ) (name : List ℕ) → name_of (option_and_then (λ (p : Policy). slice_get p.profiles j) o) ≡ Some name → (policy : Policy) → o ≡ Some policy → named policy.profiles name ≡ Some j
called_there o j name e policy is = by_profile (slice_get policy.profiles j) refl (ap (λ (x : Option Policy). name_of (option_and_then (λ (p : Policy). slice_get p.profiles j) x)) (sym is) ∙ e)
  where
    by_profile : (x : Option Profile) → slice_get policy.profiles j ≡ x → name_of (slice_get policy.profiles j) ≡ Some name → named policy.profiles name ≡ Some j
    by_profile (Some q) at f =
        let same : q.name ≡ name = same_Some q.name name (ap name_of (sym at) ∙ f) in
        subst (λ (n : List ℕ). named policy.profiles n ≡ Some j) same (named_is policy.profiles policy.lawful.distinct j q at)
    by_profile None at f = absurd (let h : None ≡ Some name = ap name_of (sym at) ∙ f in cc)

pub called_number : (ps qs : List Policy) (k n j : ℕ) (p : Profile) (policy : Policy) → profile_in ps k n ≡ Some p → slice_get qs k ≡ Some policy
    → SameLabel ps qs (Confined k n) (Confined k j) → named policy.profiles p.name ≡ Some j
called_number ps qs k n j p policy at there same = called_there (slice_get qs k) j p.name (sym same.1 ∙ ap name_of at) policy there

-- the profile that is found by the name of another is called the same
pub called_same : (ps qs : List Policy) (k n j : ℕ) (p : Profile) (policy : Policy) → profile_in ps k n ≡ Some p → slice_get qs k ≡ Some policy
    → named policy.profiles p.name ≡ Some j → SameLabel ps qs (Confined k n) (Confined k j)
called_same ps qs k n j p policy at there is =
    let found = position-Some (λ (q : Profile). bytes_eq p.name q.name) policy.profiles j p is in
    let q = get_or policy.profiles j p in
    let same : p.name ≡ q.name = (bytes_eq-Decides p.name q.name).0 found.1 in
    let here : profile_in qs k j ≡ Some q = ap (option_and_then (λ (x : Policy). slice_get x.profiles j)) there ∙ slice_get-get_or policy.profiles j p found.0 in
    (refl, ap name_of at ∙ ap Some same ∙ sym (ap name_of here))

pub pairs_keep : (ps qs : List Policy) (k : ℕ) (was now : List Labels) → ((x : Labels) → Contains was x → Contains now x) → HasPairsAt ps qs k was → HasPairsAt ps qs k now
pairs_keep ps qs k was now kept has = record { free = kept _ has.free; confined = λ n p j at same. kept _ (has.confined n p j at same) }

pub pushed_pair : (ps qs : List Policy) (was now : List Labels) (x : Labels) → now ≡ was ++ x ∷ [] → SameLabel ps qs x.from x.to → AddsPairs ps qs was now
pushed_pair ps qs was now x e same = record {
  kept = λ y c. subst (λ (l : List Labels). Contains l y) (sym e) (Contains-append_left was (x ∷ []) y c);
  each = λ y c. ⊎_elim inl (λ (f : x ≡ y). inr (subst (λ (z : Labels). SameLabel ps qs z.from z.to) f same)) (Contains-push_cases was x y (subst (λ (l : List Labels). Contains l y) e c));
}

pub no_pairs : (ps qs : List Policy) (was : List Labels) → AddsPairs ps qs was was
no_pairs ps qs was = record { kept = λ y c. c; each = λ y c. inl c }

pub more_pairs : (ps qs : List Policy) (as' bs cs : List Labels) → AddsPairs ps qs as' bs → AddsPairs ps qs bs cs → AddsPairs ps qs as' cs
more_pairs ps qs as' bs cs x y = record {
  kept = λ z c. y.kept z (x.kept z c);
  each = λ z c. ⊎_elim (x.each z) inr (y.each z c);
}

pub pair_there : (was now : List Labels) (x : Labels) → now ≡ was ++ x ∷ [] → Contains now x
pair_there was now x e = subst (λ (l : List Labels). Contains l x) (sym e) (Contains-push was x)

-- at labels that aren't there all is refused
module _ (ps : List Policy) where
  refused_by : (label : Label) (r : Request) → slice_get ps (policy_number label) ≡ None → reply ps label r ≡ goes_to label None
  unfolding reply
  refused_by label r none = ap (λ (o : Option Policy). reply_by ps label o r) none ∙ nothing label
    where
      nothing : (label : Label) → reply_by ps label None r ≡ goes_to label None
      nothing (Unconfined k) = refl
      nothing (Confined k n) = refl

  refused_at : (k n : ℕ) (r : Request) → name_of (profile_in ps k n) ≡ None → reply ps (Confined k n) r ≡ goes_to (Confined k n) None
  unfolding reply
  refused_at k n r none = at (slice_get ps k) none
    where
      missing : (policy : Policy) (x : Option Profile) → name_of x ≡ None → reply_at ps k policy.profiles n x r ≡ goes_to (Confined k n) None
      missing policy None e = refl
      missing policy (Some p) e = absurd (let h : Some p.name ≡ None = e in cc)

      at : (o : Option Policy) → name_of (option_and_then (λ (p : Policy). slice_get p.profiles n) o) ≡ None → reply_by ps (Confined k n) o r ≡ goes_to (Confined k n) None
      at None e = refl
      at (Some policy) e = missing policy (slice_get policy.profiles n) e

refused_alike : (ps qs : List Policy) (l m : Label) (r : Request) → reply ps l r ≡ goes_to l None → reply qs m r ≡ goes_to m None → SameLabel ps qs l m → AnsweredAlike ps qs l m r
refused_alike ps qs l m r e f same =
    subst (λ (x : Answer). SameAnswer ps qs x (reply qs m r)) (sym e)
    (subst (λ (y : Answer). SameAnswer ps qs (goes_to l None) y) (sym f) (record { granted = refl; scrub = refl; note = refl; label = same }))

-- each two labels that are called the same are among the pairs, or all is answered alike there
pub all_pairs : (ps qs : List Policy) (ls : List Labels) → ((k : ℕ) → k < max (length ps) (length qs) → HasPairsAt ps qs k ls) → (l m : Label) → SameLabel ps qs l m
    → ((r : Request) → AnsweredAlike ps qs l m r) ⊎ Contains ls (record { from = l; to = m })
all_pairs ps qs ls has (Unconfined k) (Unconfined j) same =
    ⊎_elim
    (λ (lt : k < max (length ps) (length qs)). inr (subst (λ (i : ℕ). Contains ls (record { from = Unconfined k; to = Unconfined i })) same (has k lt).free))
    (λ (le : max (length ps) (length qs) ≤ k).
    let one : length ps ≤ k = omega (arith, le) in
    let other : length qs ≤ j = omega (arith, le, same) in
    inl (λ r. refused_alike ps qs (Unconfined k) (Unconfined j) r (refused_by ps (Unconfined k) r (slice_get_past ps k one)) (refused_by qs (Unconfined j) r (slice_get_past qs j other)) same))
    (cases_lt k (max (length ps) (length qs)))
all_pairs ps qs ls has (Confined k n) (Confined j m) same = by_profile (profile_in ps k n) refl
  where
    by_profile : (x : Option Profile) → profile_in ps k n ≡ x → ((r : Request) → AnsweredAlike ps qs (Confined k n) (Confined j m) r) ⊎ Contains ls (record { from = Confined k n; to = Confined j m })
    by_profile None at =
        let none : name_of (profile_in ps k n) ≡ None = ap name_of at in
        inl (λ r. refused_alike ps qs (Confined k n) (Confined j m) r (refused_at ps k n r none) (refused_at qs j m r (sym same.1 ∙ none)) same)
    by_profile (Some p) at =
        ⊎_elim
        (λ (lt : k < max (length ps) (length qs)).
        inr (subst (λ (i : ℕ). Contains ls (record { from = Confined k n; to = Confined i m })) same.0
        ((has k lt).confined n p m at (refl, subst (λ (i : ℕ). name_of (profile_in ps k n) ≡ name_of (profile_in qs i m)) (sym same.0) same.1))))
        (λ (le : max (length ps) (length qs) ≤ k).
        let one : length ps ≤ k = omega (arith, le) in
        let none : profile_in ps k n ≡ None = ap (option_and_then (λ (q : Policy). slice_get q.profiles n)) (slice_get_past ps k one) in
        absurd (let h : None ≡ Some p = sym none ∙ at in cc))
        (cases_lt k (max (length ps) (length qs)))
all_pairs ps qs ls has (Unconfined k) (Confined j m) same = absurd same
all_pairs ps qs ls has (Confined k n) (Unconfined j) same = absurd same
