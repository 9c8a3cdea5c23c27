-- Handing sources in, one behind another.
use Rattle.std.proofs.Common.{◌≡◌, ℕ, ◌+◌, ◌<◌, ◌≤◌, List, [], ◌∷◌, ◌++◌, length, drop, get_or, flat_map, refl, ap, sym, subst, ◌∙◌, append_assoc}
use Rattle.std.proofs.lemmas.List.{drop_more, at_drop_all, append-nil}
use Rattle.aa_base.specs.declared.fault.PolicyFault.{PolicyFault}
use Rattle.aa_policies.specs.Policies.{Source, CanFollow, IsFaultOfSources}
use Rattle.aa_load.specs.UnitPolicy.{IsRefusedOf}

-- these sources were handed in, and what is left stands behind them
pub record Gathered (all rest found : List Source) : Type 0 where
  pub whole : found ++ rest ≡ all
  pub so_far : CanFollow [] found

pub gathered_none : (all found : List Source) → found ≡ [] → Gathered all all found
gathered_none all found e = subst (λ (f : List Source). Gathered all all f) (sym e) (record { whole = refl; so_far = tt })

-- sources that can follow, and others that can follow them
both_follow : (earlier found more : List Source) → CanFollow earlier found → CanFollow (earlier ++ found) more → CanFollow earlier (found ++ more)
both_follow earlier [] more can last = subst (λ (l : List Source). CanFollow l more) (append-nil earlier) last
both_follow earlier (x ∷ xs) more can last =
    let e : (earlier ++ x ∷ []) ++ xs ≡ earlier ++ x ∷ xs = append_assoc earlier (x ∷ []) xs in
    (can.0, can.1, can.2, both_follow (earlier ++ x ∷ []) xs more can.3 (subst (λ (l : List Source). CanFollow l more) (sym e) last))

pub gathered_more : (all rest found more after : List Source) → Gathered all (more ++ rest) found → CanFollow found more → after ≡ found ++ more → Gathered all rest after
gathered_more all rest found more after g fits is =
    subst (λ (f : List Source). Gathered all rest f) (sym is) (record {
      whole = append_assoc found more rest ∙ g.whole;
      so_far = both_follow [] found more g.so_far fits;
    })

pub gathered_all : (all rest found : List Source) → rest ≡ [] → Gathered all rest found → found ≡ all
gathered_all all rest found none g = sym (append-nil found) ∙ ap (λ (l : List Source). found ++ l) (sym none) ∙ g.whole

-- sources that are handed in to the last can follow one another
pub gathered_fit : (all rest found : List Source) → rest ≡ [] → Gathered all rest found → CanFollow [] all
gathered_fit all rest found none g = subst (λ (l : List Source). CanFollow [] l) (gathered_all all rest found none g) g.so_far

pub gathered_fault : (all more rest found : List Source) (fault : PolicyFault) → Gathered all (more ++ rest) found → IsRefusedOf found more fault → IsFaultOfSources all fault
gathered_fault all more rest found fault g why = record {
  before = found;
  source = why.0;
  behind = rest;
  are = sym (ap (λ (l : List Source). found ++ (l ++ rest)) (sym why.1) ∙ g.whole);
  fit = g.so_far;
  fault = why.2;
}

-- what is left of a list from a place on, and what behind that
pub here : {X : Type 0} (f : X → List Source) (xs : List X) (i : ℕ) (x : X) → i < length xs → flat_map f (drop i xs) ≡ f (get_or xs i x) ++ flat_map f (drop (i + 1) xs)
here f xs i x lt = ap (flat_map f) (drop_more xs i x lt)

pub none_left : {X : Type 0} (f : X → List Source) (xs : List X) (i : ℕ) → length xs ≤ i → flat_map f (drop i xs) ≡ []
none_left f xs i le = ap (flat_map f) (at_drop_all (λ x. x) xs i le)
