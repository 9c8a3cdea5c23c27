-- The first profile whose name is there.
use Rattle.std.proofs.Common.{◌≡◌, ℕ, zero, suc, ◌<◌, Bool, true, false, cond, List, [], ◌∷◌, length, take, get_or, Option, Some, None, is_some, option_map, refl, ap, ◌∙◌, arith}
use Rattle.std.specs.Option.{option_or}
use Rattle.std.specs.Str.{bytes_eq}
use Rattle.std.proofs.lemmas.Slice.Eq.{bytes_eq-Decides}
use Rattle.aa_model.specs.declared.policy.Profile.{Profile}
use Rattle.aa_load.specs.declared.join_fault.Repeated.{Repeated}
use Rattle.aa_load.specs.Faults.{number_of, at_first, one_later, repeated}

-- where none is found, neither the first nor a later one is
none_here : (o : Option ℕ) (r : Option Repeated) → option_or (option_map at_first o) (option_map one_later r) ≡ None → o ≡ None
none_here None r e = refl
none_here (Some n) r e = absurd cc

none_there : (o : Option ℕ) (r : Option Repeated) → option_or (option_map at_first o) (option_map one_later r) ≡ None → r ≡ None
none_there (Some n) r e = absurd cc
none_there None None e = refl
none_there None (Some x) e = absurd cc

-- no name of those that are there is repeated
pub unknown_at : (earlier ps : List Profile) (i : ℕ) (d : Profile) → repeated earlier ps ≡ None → i < length ps → number_of (get_or ps i d).name earlier ≡ None
unknown_at earlier [] i d e lt = absurd (omega arith)
unknown_at earlier (p ∷ ps) zero d e lt = none_here (number_of p.name earlier) (repeated earlier ps) e
unknown_at earlier (p ∷ ps) (suc i) d e lt = unknown_at earlier ps i d (none_there (number_of p.name earlier) (repeated earlier ps) e) (omega arith)

-- the first that is found
pub repeated_at : (earlier ps : List Profile) (i n : ℕ) (d : Profile) → i < length ps → repeated earlier (take i ps) ≡ None
    → number_of (get_or ps i d).name earlier ≡ Some n → repeated earlier ps ≡ Some (record { earlier = n; later = i })
repeated_at earlier [] i n d lt none is = absurd (omega arith)
repeated_at earlier (p ∷ ps) zero n d lt none is = ap (λ (o : Option ℕ). option_or (option_map at_first o) (option_map one_later (repeated earlier ps))) is
repeated_at earlier (p ∷ ps) (suc i) n d lt none is =
    ap (λ (o : Option ℕ). option_or (option_map at_first o) (option_map one_later (repeated earlier ps))) (none_here (number_of p.name earlier) (repeated earlier (take i ps)) none)
    ∙ ap (λ (r : Option Repeated). option_map one_later r)
    (repeated_at earlier ps i n d (omega arith) (none_there (number_of p.name earlier) (repeated earlier (take i ps)) none) is)

-- one more that isn't found
pub unrepeated_more : (earlier ps : List Profile) (i : ℕ) (d : Profile) → i < length ps → repeated earlier (take i ps) ≡ None
    → number_of (get_or ps i d).name earlier ≡ None → repeated earlier (take (suc i) ps) ≡ None
unrepeated_more earlier [] i d lt none is = absurd (omega arith)
unrepeated_more earlier (p ∷ ps) zero d lt none is = ap (λ (o : Option ℕ). option_or (option_map at_first o) None) is
unrepeated_more earlier (p ∷ ps) (suc i) d lt none is =
    ap (λ (o : Option ℕ). option_or (option_map at_first o) (option_map one_later (repeated earlier (take (suc i) ps)))) (none_here (number_of p.name earlier) (repeated earlier (take i ps)) none)
    ∙ ap (λ (r : Option Repeated). option_map one_later r)
    (unrepeated_more earlier ps i d (omega arith) (none_there (number_of p.name earlier) (repeated earlier (take i ps)) none) is)

-- a name that one of these has is none that is there, where none is repeated
pub unknown_name : (q : List ℕ) (earlier ps : List Profile) → repeated earlier ps ≡ None → is_some (number_of q ps) ≡ true → number_of q earlier ≡ None
unknown_name q earlier [] none e = absurd cc
unknown_name q earlier (p ∷ ps) none e = by (bytes_eq q p.name) refl e (unknown_name q earlier ps (none_there (number_of p.name earlier) (repeated earlier ps) none))
  where
    here : number_of p.name earlier ≡ None
    here = none_here (number_of p.name earlier) (repeated earlier ps) none

    less : (o : Option ℕ) → is_some (option_map suc o) ≡ true → is_some o ≡ true
    less None f = f
    less (Some n) f = refl

    by : (b : Bool) → bytes_eq q p.name ≡ b → is_some (cond b (Some 0) (option_map suc (number_of q ps))) ≡ true → (is_some (number_of q ps) ≡ true → number_of q earlier ≡ None)
        → number_of q earlier ≡ None
    by true same f rest = ap (λ (t : List ℕ). number_of t earlier) ((bytes_eq-Decides q p.name).0 same) ∙ here
    by false other f rest = rest (less (number_of q ps) f)
