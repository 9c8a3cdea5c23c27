-- The test finds the components that name nothing, and no others.
use Rattle.std.proofs.Common.{◌≡◌, ◌≢◌, ℕ, ◌⊎◌, List, [], ◌∷◌, ◌++◌, All, Bool, true, false, refl, sym, ap, ◌∙◌, subst, inl, inr, ⊎_elim, arith}
use Rattle.std.specs.Prelude.{◌==◌, ◌&&◌, ◌||◌, codes}
use Rattle.std.proofs.lemmas.Bool.{and_parts, and_from, or_cases, eq-eqb, eqb-true}
use Rattle.std.proofs.lemmas.List.Elements.{All-nil, All-cons}
use Rattle.aa_unclean_paths.specs.Components.{IsEndOrSlash, NamesNothing, IsUnclean}
use Rattle.aa_unclean_paths.specs.Deciding.{ends_here, ends_behind_dot, begins_with_nothing, is_unclean}

or_left : (a b : Bool) → a ≡ true → (a || b) ≡ true
or_left true b e = refl
or_left false b e = absurd cc

or_right : (a b : Bool) → b ≡ true → (a || b) ≡ true
or_right true b e = refl
or_right false b e = e

ends_then : (s : List ℕ) → ends_here s ≡ true → IsEndOrSlash s
ends_then [] e = tt
ends_then (b ∷ bs) e = eqb-true b 47 e

then_ends : (s : List ℕ) → IsEndOrSlash s → ends_here s ≡ true
then_ends [] e = refl
then_ends (b ∷ bs) e = eq-eqb b 47 e

-- a component that names nothing stands in front, and the rest behind it
record Nothing (s : List ℕ) : Type 0 where
  component : List ℕ
  rest : List ℕ
  whole : s ≡ component ++ rest
  name : All (λ (b : ℕ). b ≢ 47) component
  ends : IsEndOrSlash rest
  none : NamesNothing component rest

no_slash : (b : ℕ) → b ≡ 46 → b ≢ 47
no_slash b is e = omega (arith, is, e)

no_name : All (λ (b : ℕ). b ≢ 47) []
no_name = All-nil (λ (b : ℕ). b ≢ 47)

dot_name : All (λ (b : ℕ). b ≢ 47) (46 ∷ [])
dot_name = All-cons (λ (b : ℕ). b ≢ 47) 46 [] (no_slash 46 refl) no_name

dots_name : All (λ (b : ℕ). b ≢ 47) (46 ∷ 46 ∷ [])
dots_name = All-cons (λ (b : ℕ). b ≢ 47) 46 (46 ∷ []) (no_slash 46 refl) dot_name

empty : (s : List ℕ) (b : ℕ) → b ≡ 47 → Nothing (b ∷ s)
empty s b e = record { component = []; rest = b ∷ s; whole = refl; name = no_name; ends = e; none = inr (inr (refl, λ f. cc f)) }

one_dot : (s : List ℕ) → IsEndOrSlash s → Nothing (46 ∷ s)
one_dot s ends = record { component = 46 ∷ []; rest = s; whole = refl; name = dot_name; ends = ends; none = inl refl }

two_dots : (s : List ℕ) → IsEndOrSlash s → Nothing (46 ∷ 46 ∷ s)
two_dots s ends = record { component = 46 ∷ 46 ∷ []; rest = s; whole = refl; name = dots_name; ends = ends; none = inr (inl refl) }

behind_dot : (s : List ℕ) → ends_behind_dot s ≡ true → Nothing (46 ∷ s)
behind_dot [] e = one_dot [] tt
behind_dot (b ∷ bs) e =
    ⊎_elim
    (λ (f : (b == 47) ≡ true). one_dot (b ∷ bs) (eqb-true b 47 f))
    (λ (f : (b == 46 && ends_here bs) ≡ true).
    let p = and_parts (b == 46) (ends_here bs) f in
    subst (λ (x : ℕ). Nothing (46 ∷ x ∷ bs)) (sym (eqb-true b 46 p.0)) (two_dots bs (ends_then bs p.1)))
    (or_cases (b == 47) (b == 46 && ends_here bs) e)

nothing : (s : List ℕ) → begins_with_nothing s ≡ true → Nothing s
nothing [] e = absurd cc
nothing (b ∷ bs) e =
    ⊎_elim
    (λ (f : (b == 47) ≡ true). empty bs b (eqb-true b 47 f))
    (λ (f : (b == 46 && ends_behind_dot bs) ≡ true).
    let p = and_parts (b == 46) (ends_behind_dot bs) f in
    subst (λ (x : ℕ). Nothing (x ∷ bs)) (sym (eqb-true b 46 p.0)) (behind_dot bs p.1))
    (or_cases (b == 47) (b == 46 && ends_behind_dot bs) e)

behind_one : (s : List ℕ) → IsEndOrSlash s → ends_behind_dot s ≡ true
behind_one [] e = refl
behind_one (b ∷ bs) e = or_left (b == 47) (b == 46 && ends_here bs) (eq-eqb b 47 e)

found : (component rest : List ℕ) → IsEndOrSlash rest → NamesNothing component rest → begins_with_nothing (component ++ rest) ≡ true
found component rest ends none =
    ⊎_elim
    (λ (e : component ≡ codes "."). subst (λ (c : List ℕ). begins_with_nothing (c ++ rest) ≡ true) (sym e) (behind_one rest ends))
    (λ o. ⊎_elim
    (λ (e : component ≡ codes ".."). subst (λ (c : List ℕ). begins_with_nothing (c ++ rest) ≡ true) (sym e) (then_ends rest ends))
    (λ (p : (component ≡ []) × (rest ≢ [])). subst (λ (c : List ℕ). begins_with_nothing (c ++ rest) ≡ true) (sym p.0) (slash rest ends p.1)) o) none
  where
    slash : (s : List ℕ) → IsEndOrSlash s → s ≢ [] → begins_with_nothing s ≡ true
    slash [] e not_end = absurd (not_end refl)
    slash (b ∷ bs) e not_end = or_left (b == 47) (b == 46 && ends_behind_dot bs) (eq-eqb b 47 e)

pub unclean_then : (s : List ℕ) → is_unclean s ≡ true → IsUnclean s
unfolding is_unclean
unclean_then [] e = absurd cc
unclean_then (b ∷ bs) e =
    ⊎_elim
    (λ (f : (b == 47 && begins_with_nothing bs) ≡ true).
    let p = and_parts (b == 47) (begins_with_nothing bs) f in
    let n = nothing bs p.1 in
    record {
      component = n.component;
      rest = n.rest;
      has = record { before = []; whole = ap (λ (x : ℕ). x ∷ bs) (eqb-true b 47 p.0) ∙ ap (λ (l : List ℕ). 47 ∷ l) n.whole; name = n.name; ends = n.ends };
      none = n.none;
    })
    (λ (f : is_unclean bs ≡ true).
    let u = unclean_then bs f in
    record {
      component = u.component;
      rest = u.rest;
      has = record { before = b ∷ u.has.before; whole = ap (λ (l : List ℕ). b ∷ l) u.has.whole; name = u.has.name; ends = u.has.ends };
      none = u.none;
    })
    (or_cases (b == 47 && begins_with_nothing bs) (is_unclean bs) e)

behind : (before s : List ℕ) → begins_with_nothing s ≡ true → is_unclean (before ++ 47 ∷ s) ≡ true
unfolding is_unclean
behind [] s e = or_left (47 == 47 && begins_with_nothing s) (is_unclean s) (and_from (47 == 47) (begins_with_nothing s) refl e)
behind (b ∷ before) s e =
    let last = before ++ 47 ∷ s in
    or_right (b == 47 && begins_with_nothing last) (is_unclean last) (behind before s e)

pub then_unclean : (s : List ℕ) → IsUnclean s → is_unclean s ≡ true
then_unclean s u =
    subst (λ (l : List ℕ). is_unclean l ≡ true) (sym u.has.whole) (behind u.has.before (u.component ++ u.rest) (found u.component u.rest u.has.ends u.none))
