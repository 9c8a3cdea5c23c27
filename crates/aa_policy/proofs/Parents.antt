-- The parent of a profile is an earlier profile that has none.
use Rattle.std.proofs.Common.{◌≡◌, ℕ, zero, suc, ◌+◌, ◌<◌, arith, List, [], ◌∷◌, ◌++◌, map, length, Bool, true, false, refl, sym, ap, subst, ◌∙◌}
use Rattle.std.specs.Prelude.{⊤, Option, Some, None, option_map, option_and_then, if◌then◌else◌, nat_lt}
use Rattle.std.specs.List.{slice_get}
use Rattle.std.proofs.lemmas.List.{map-append, append-nil, append_assoc, length-append, length-map}
use Rattle.std.proofs.lemmas.Option.{same_Some, slice_get-map, slice_get_within}
use Rattle.aa_glob.specs.Variables.{Variable}
use Rattle.aa_model.specs.declared.policy.Profile.{Profile}
use Rattle.aa_policy.specs.Bodies.{ChildData, FamilyData, ProfileData, number_of, child_profile, family, row_from}
use Rattle.aa_model.specs.Lawful.{ParentsComeFirst}
use Rattle.aa_policy.specs.Spelling.{MeansProfiles}

-- ---- parents alone

-- there is no parent, or one of those before has its number, and no parent
abbrev Fits : List (Option ℕ) → Option ℕ → Type 0
Fits before None = ⊤
Fits before (Some n) = slice_get before n ≡ Some None

-- each fits those before it
abbrev InOrder : List (Option ℕ) → List (Option ℕ) → Type 0
InOrder before [] = ⊤
InOrder before (o ∷ os) = Fits before o × InOrder (before ++ o ∷ []) os

-- what stands in a list stands in a longer one
get_longer : {X : Type 0} (xs ys : List X) (n : ℕ) (x : X) → slice_get xs n ≡ Some x → slice_get (xs ++ ys) n ≡ Some x
get_longer [] ys n x e = absurd cc
get_longer (y ∷ xs) ys zero x e = e
get_longer (y ∷ xs) ys (suc n) x e = get_longer xs ys n x e

-- what stands last
get_last : {X : Type 0} (xs : List X) (x : X) → slice_get (xs ++ x ∷ []) (length xs) ≡ Some x
get_last [] x = refl
get_last (y ∷ xs) x = get_last xs x

top_before : (before : List (Option ℕ)) (n : ℕ) (o : Option ℕ) → Fits before o → o ≡ Some n → slice_get before n ≡ Some None
top_before before n o h e = subst (λ (x : Option ℕ). Fits before x) e h

-- in order, a parent has a smaller number, and has none itself
in_order_at : (before os : List (Option ℕ)) → InOrder before os → (k n : ℕ) → slice_get os k ≡ Some (Some n) → (n < length before + k) × (slice_get (before ++ os) n ≡ Some None)
in_order_at before [] h k n e = absurd cc
in_order_at before (o ∷ os) h zero n e =
    let top : slice_get before n ≡ Some None = top_before before n o h.0 (same_Some o (Some n) e) in
    let within : n < length before = slice_get_within before n None top in
    (omega (arith, within), get_longer before (o ∷ os) n None top)
in_order_at before (o ∷ os) h (suc k) n e =
    let there = in_order_at (before ++ o ∷ []) os h.1 k n e in
    let long : length (before ++ o ∷ []) ≡ length before + 1 = length-append before (o ∷ []) in
    let less : n < length (before ++ o ∷ []) + k = there.0 in
    (omega (arith, long, less), ap (λ (xs : List (Option ℕ)). slice_get xs n) (sym (append_assoc before (o ∷ []) os)) ∙ there.1)

in_order_append : (before xs ys : List (Option ℕ)) → InOrder before xs → InOrder (before ++ xs) ys → InOrder before (xs ++ ys)
in_order_append before [] ys h k = subst (λ (zs : List (Option ℕ)). InOrder zs ys) (append-nil before) k
in_order_append before (x ∷ xs) ys h k =
    (h.0, in_order_append (before ++ x ∷ []) xs ys h.1 (subst (λ (zs : List (Option ℕ)). InOrder zs ys) (sym (append_assoc before (x ∷ []) xs)) k))

-- ---- the row of profiles

-- the parents in order
abbrev parents : List ProfileData → List (Option ℕ)
parents row = map (λ (p : ProfileData). p.parent) row

-- a parent's number fits behind it, if it is given at all
fits_if : (before : List (Option ℕ)) (n : ℕ) (b : Bool) → slice_get before n ≡ Some None → Fits before (if b then Some n else None)
fits_if before n true h = h
fits_if before n false h = tt

children_in_order : (before : List (Option ℕ)) (n : ℕ) (name : List ℕ) → slice_get before n ≡ Some None → (cs : List ChildData) → InOrder before (parents (map (child_profile n name) cs))
children_in_order before n name h [] = tt
children_in_order before n name h (c ∷ cs) =
    (fits_if before n (nat_lt n 65536) h, children_in_order (before ++ number_of n ∷ []) n name (get_longer before (number_of n ∷ []) n None h) cs)

family_in_order : (before : List (Option ℕ)) (f : FamilyData) → InOrder before (parents (family (length before) f))
family_in_order before f = (tt, children_in_order (before ++ None ∷ []) (length before) f.head.title.name (get_last before None) f.children)

row_in_order : (before : List (Option ℕ)) (number : ℕ) → length before ≡ number → (fs : List FamilyData) → InOrder before (parents (row_from number fs))
row_in_order before number e [] = tt
row_in_order before number e (f ∷ fs) =
    let here = family number f in
    let long : length (before ++ parents here) ≡ number + length here =
    length-append before (parents here) ∙ ap (λ (n : ℕ). length before + n) (length-map here (λ (p : ProfileData). p.parent)) ∙ ap (λ (n : ℕ). n + length here) e in
    let first : InOrder before (parents here) = subst (λ (n : ℕ). InOrder before (parents (family n f))) e (family_in_order before f) in
    let rest : InOrder (before ++ parents here) (parents (row_from (number + length here) fs)) = row_in_order (before ++ parents here) (number + length here) long fs in
    subst (λ (os : List (Option ℕ)). InOrder before os) (sym (map-append (λ (p : ProfileData). p.parent) here (row_from (number + length here) fs)))
    (in_order_append before (parents here) (parents (row_from (number + length here) fs)) first rest)

-- ---- what they mean

same_parents : (vars : List Variable) (row : List ProfileData) (ps : List Profile) → MeansProfiles vars row ps → map (λ (p : Profile). p.parent) ps ≡ parents row
same_parents vars [] [] m = refl
same_parents vars [] (p ∷ ps) m = absurd m
same_parents vars (d ∷ row) [] m = absurd m
same_parents vars (d ∷ row) (p ∷ ps) m =
    ap (λ (o : Option ℕ). o ∷ map (λ (q : Profile). q.parent) ps) m.0.parent_is ∙ ap (λ (os : List (Option ℕ)). d.parent ∷ os) (same_parents vars row ps m.1)

no_parent : (o : Option Profile) → option_map (λ (p : Profile). p.parent) o ≡ Some None → option_and_then (λ (p : Profile). p.parent) o ≡ None
no_parent None e = absurd cc
no_parent (Some p) e = same_Some p.parent None e

-- a parent comes before its children, and is no child
pub parents_first : (vars : List Variable) (families : List FamilyData) (ps : List Profile) → MeansProfiles vars (row_from 0 families) ps → ParentsComeFirst ps
parents_first vars families ps m = λ k n p e h.
    let parent = λ (q : Profile). q.parent in
    let same : map parent ps ≡ parents (row_from 0 families) = same_parents vars (row_from 0 families) ps m in
    let here : slice_get (parents (row_from 0 families)) k ≡ Some (Some n) =
    ap (λ (os : List (Option ℕ)). slice_get os k) (sym same) ∙ slice_get-map parent ps k ∙ ap (λ (o : Option Profile). option_map parent o) e ∙ ap Some h in
    let there = in_order_at [] (parents (row_from 0 families)) (row_in_order [] 0 refl families) k n here in
    let less : n < 0 + k = there.0 in
    (omega (arith, less), no_parent (slice_get ps n) (sym (slice_get-map parent ps n) ∙ ap (λ (os : List (Option ℕ)). slice_get os n) same ∙ there.1))
