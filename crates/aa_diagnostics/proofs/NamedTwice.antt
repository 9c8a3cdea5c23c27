-- Where a profile's name stands first, of one that comes twice.
use Rattle.std.proofs.Common.{◌≡◌, ℕ, List, [], ◌∷◌, ◌++◌, map, Bool, true, false, cond, Option, Some, None, refl, sym, ap, subst, ◌∙◌, append_assoc}
use Rattle.std.specs.Prelude.{find, option_map, ◌||◌}
use Rattle.std.specs.Option.{option_or}
use Rattle.std.specs.List.{list_any, AllByRecursion, IsDistinct}
use Rattle.std.specs.Str.{bytes_eq}
use Rattle.std.specs.Cmp.Lexicographic.{nat_list_eq_equiv}
use Rattle.std.proofs.lemmas.List.{append-nil, map-append}
use Rattle.std.proofs.lemmas.List.Folds.{find-append}
use Rattle.std.proofs.lemmas.Map.Keys.{IsDistinct-head, IsDistinct-tail}
use Rattle.aa_base.specs.declared.fault.Spot.{Spot}
use Rattle.aa_glob.specs.Variables.{Variable}
use Rattle.aa_words.specs.Splits.{WordData}
use Rattle.aa_model.specs.declared.policy.Profile.{Profile}
use Rattle.aa_model.specs.Lawful.{names_of}
use Rattle.aa_policy.specs.Bodies.{ProfileData, IsPolicy}
use Rattle.aa_policy.specs.Spelling.{MeansProfiles, IsDuplicate}
use Rattle.aa_policy.proofs.Profiles.{policy_once}
use Rattle.aa_diagnostics.specs.Named.{NamedAt, named_of}
use Rattle.aa_diagnostics.specs.Earlier.{same_spot, first_named, named_profile, named_again, IsNamedFirst}
use Rattle.aa_diagnostics.proofs.SetTwice.{same_place}

abbrev is_called : List ℕ → NamedAt → Bool
is_called name p = bytes_eq p.name name

abbrev names : List NamedAt → List (List ℕ)
names ps = map (λ (p : NamedAt). p.name) ps

-- no name of these is one of those before
abbrev Fresh : List NamedAt → List NamedAt → Type 0
Fresh done [] = Unit {0}
Fresh done (p ∷ ps) = (find (is_called p.name) done ≡ None) × Fresh done ps

fresh_none : (ps : List NamedAt) → Fresh [] ps
fresh_none [] = tt
fresh_none (p ∷ ps) = (refl, fresh_none ps)

fresh_more : (done : List NamedAt) (x : NamedAt) (ps : List NamedAt) → Fresh done ps → AllByRecursion (λ name. bytes_eq x.name name ≡ false) (names ps) → Fresh (done ++ x ∷ []) ps
fresh_more done x [] f a = tt
fresh_more done x (p ∷ ps) f a = (
  find-append (is_called p.name) done (x ∷ []) ∙ ap (λ (o : Option NamedAt). option_or o (find (is_called p.name) (x ∷ []))) f.0 ∙ ap (λ (b : Bool). cond b (Some x) None) a.0,
  fresh_more done x ps f.1 a.1,
)

either_none : (b : Bool) (o : Option Spot) → o ≡ None → cond b o None ≡ None
either_none true o e = e
either_none false o e = refl

-- profiles whose names are new are passed
passed : (at : Spot) (done rest : List NamedAt) (p : NamedAt) (after : List NamedAt) → Fresh done rest → IsDistinct bytes_eq (names rest)
    → named_again at done (rest ++ p ∷ after) ≡ named_again at (done ++ rest) (p ∷ after)
passed at done [] p after f d = ap (λ (l : List NamedAt). named_again at l (p ∷ after)) (sym (append-nil done))
passed at done (x ∷ xs) p after f d =
    ap (λ (o : Option Spot). option_or o (named_again at (done ++ x ∷ []) (xs ++ p ∷ after)))
    (either_none (same_spot x.at at) (first_named x.name done) (ap (option_map (λ (q : NamedAt). q.at)) f.0))
    ∙ passed at (done ++ x ∷ []) xs p after (fresh_more done x xs f.1 (IsDistinct-head bytes_eq x.name (names xs) d)) (IsDistinct-tail bytes_eq x.name (names xs) d)
    ∙ ap (λ (l : List NamedAt). named_again at l (p ∷ after)) (append_assoc done (x ∷ []) xs)

-- one of the profiles has the name
named_there : (name : List ℕ) (ps : List Profile) → list_any (bytes_eq name) (names_of ps) ≡ true → (first : Spot) × (first_named name (map named_profile ps) ≡ Some first)
named_there name [] e = absurd cc
named_there name (p ∷ ps) e = by (bytes_eq name p.name) (nat_list_eq_equiv.symm p.name name) e (λ f. named_there name ps f)
  where
    by : (b : Bool) → bytes_eq p.name name ≡ b → (b || list_any (bytes_eq name) (names_of ps)) ≡ true
        → (list_any (bytes_eq name) (names_of ps) ≡ true → (first : Spot) × (first_named name (map named_profile ps) ≡ Some first))
        → (first : Spot) × (first_named name (map named_profile (p ∷ ps)) ≡ Some first)
    by true q e later = (p.at, ap (λ (b : Bool). option_map (λ (x : NamedAt). x.at) (cond b (Some (named_profile p)) (find (is_called name) (map named_profile ps)))) q)
    by false q e later =
        let l = later e in
        (l.0, ap (λ (b : Bool). option_map (λ (x : NamedAt). x.at) (cond b (Some (named_profile p)) (find (is_called name) (map named_profile ps)))) q ∙ l.1)

abbrev both : Spot → List ℕ → NamedAt
both at name = record { at = at; name = name }

-- what profiles mean has their names, where they stand
same_names : (vars : List Variable) (tree : List ProfileData) (ps : List Profile) → MeansProfiles vars tree ps → map named_of tree ≡ map named_profile ps
same_names vars [] [] m = refl
same_names vars [] (p ∷ ps) m = absurd m
same_names vars (t ∷ ts) [] m = absurd m
same_names vars (t ∷ ts) (p ∷ ps) m =
    ap (λ (n : NamedAt). n ∷ map named_of ts) (ap (λ (s : Spot). both s t.name) (sym m.0.at_is) ∙ ap (λ (n : List ℕ). both p.at n) (sym m.0.name_is))
    ∙ ap (λ (l : List NamedAt). named_profile p ∷ l) (same_names vars ts ps m.1)

names_again : (ps : List Profile) → names (map named_profile ps) ≡ names_of ps
names_again [] = refl
names_again (p ∷ ps) = ap (λ (l : List (List ℕ)). p.name ∷ l) (names_again ps)

pub named_twice : (ws : List WordData) (vars : List Variable) (tree : List ProfileData) (at : Spot) (o : Option Spot) → IsPolicy ws vars tree → o ≡ named_again at [] (map named_of tree)
    → IsDuplicate ws at → (first : Spot) × (o ≡ Some first) × IsNamedFirst ws at first
named_twice ws vars tree at o written e d =
    let r = d.repeated in
    let p = named_profile r.profile in
    let before = map named_profile r.before in
    let after = map named_profile r.after in
    let first = named_there r.profile.name r.before r.repeats in
    let once : tree ≡ d.tree = (policy_once ws vars d.vars tree d.tree written d.written).1 in
    let all : map named_of tree ≡ before ++ p ∷ after =
    ap (map named_of) once ∙ same_names d.vars d.tree d.profiles d.means ∙ ap (map named_profile) r.cut ∙ map-append named_profile r.before (r.profile ∷ r.after) in
    let stands : same_spot p.at at ≡ true = same_place r.profile.at at r.at_is in
    let distinct : IsDistinct bytes_eq (names before) = subst (λ (l : List (List ℕ)). IsDistinct bytes_eq l) (sym (names_again r.before)) r.first in (
      first.0,
      e ∙ ap (named_again at []) all ∙ passed at [] before p after (fresh_none before) distinct
          ∙ ap (λ (b : Bool). option_or (cond b (first_named p.name before) None) (named_again at (before ++ p ∷ []) after)) stands
          ∙ ap (λ (f : Option Spot). option_or f (named_again at (before ++ p ∷ []) after)) first.1,
      record { twice = d; is = first.1 },
    )
