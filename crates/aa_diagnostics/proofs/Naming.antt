-- The names of profiles that are read one after another.
use Rattle.std.proofs.Common.{◌≡◌, ℕ, ◌+◌, length, List, [], ◌∷◌, ◌++◌, map, flat_map, Option, refl, sym, ap, ◌∙◌, append_assoc}
use Rattle.std.proofs.lemmas.Grind.{flat_map-append}
use Rattle.std.proofs.lemmas.List.{map-append}
use Rattle.aa_policy.specs.Bodies.{ChildData, FamilyData, if_any, child_profile, family, row_from}
use Rattle.aa_policy.proofs.Profiles.{more_given}
use Rattle.aa_diagnostics.specs.Named.{NamedAt, named_of, child_named, family_names}

one_more : {X A : Type 0} (f : X → List A) (xs : List X) (x : X) → flat_map f xs ++ f x ≡ flat_map f (xs ++ x ∷ [])
one_more f xs x = more_given f xs x (flat_map f xs) (flat_map f xs ++ f x) refl refl

-- what elements add to a list, and what one more adds
pub listed_more : {X A B : Type 0} (g : A → B) (f : X → List A) (first old new : List B) (xs : List X) (x : X)
    → new ≡ old ++ map g (f x) → old ≡ first ++ map g (flat_map f xs) → new ≡ first ++ map g (flat_map f (xs ++ x ∷ []))
listed_more g f first old new xs x n o =
    n ∙ ap (λ l. l ++ map g (f x)) o ∙ append_assoc first (map g (flat_map f xs)) (map g (f x))
    ∙ ap (λ l. first ++ l) (sym (map-append g (flat_map f xs) (f x)) ∙ ap (map g) (one_more f xs x))

-- the names of the profiles of items, and of one item more
pub named_more : (is : List (Option FamilyData)) (i : Option FamilyData) (old new : List NamedAt)
    → new ≡ old ++ flat_map family_names (if_any i) → old ≡ flat_map family_names (flat_map if_any is) → new ≡ flat_map family_names (flat_map if_any (is ++ i ∷ []))
named_more is i old new n o =
    n ∙ ap (λ (l : List NamedAt). l ++ flat_map family_names (if_any i)) o ∙ sym (flat_map-append family_names (flat_map if_any is) (if_any i))
    ∙ ap (flat_map family_names) (one_more if_any is i)

children_names : (n : ℕ) (parent : List ℕ) (cs : List ChildData) → map named_of (map (child_profile n parent) cs) ≡ map (child_named parent) cs
children_names n parent [] = refl
children_names n parent (c ∷ cs) = ap (λ (l : List NamedAt). child_named parent c ∷ l) (children_names n parent cs)

-- names tell nothing of numbers
pub row_names : (n : ℕ) (fs : List FamilyData) → map named_of (row_from n fs) ≡ flat_map family_names fs
row_names n [] = refl
row_names n (f ∷ fs) =
    map-append named_of (family n f) (row_from (n + length (family n f)) fs)
    ∙ ap (λ (l : List NamedAt). map named_of (family n f) ++ l) (row_names (n + length (family n f)) fs)
    ∙ ap (λ (l : List NamedAt). (record { at = f.head.title.at; name = f.head.title.name } ∷ l) ++ flat_map family_names fs) (children_names n f.head.title.name f.children)
