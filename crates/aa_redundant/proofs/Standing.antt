-- The places where rules stand are known; rules that are redundant beside no other match nothing.
use Rattle.std.proofs.Common.{◌≡◌, ℕ, zero, suc, ◌<◌, ◌≤◌, List, [], ◌∷◌, ◌++◌, length, map, Bool, true, false}
use Rattle.std.proofs.Common.{true≢false, cond, Option, Some, None}
use Rattle.std.proofs.Common.{refl, sym, ap, ◌∙◌, subst, arith, ⊎_elim, All, eq-eqb}
use Rattle.std.specs.Prelude.{◌==◌, ◌&&◌, ◌||◌, unwrap_or, position}
use Rattle.std.specs.List.{list_any, position_or_len, slice_get}
use Rattle.std.proofs.lemmas.Bool.{cases_Bool, cases_lt, lt-ltb}
use Rattle.std.proofs.lemmas.List.Elements.{All-get_or, All-push, All-weaker}
use Rattle.std.proofs.lemmas.List.Folds.{list_any-append}
use Rattle.std.proofs.lemmas.Option.{get_or_from_slice_get, slice_get_within}
use Rattle.std.proofs.lemmas.Slice.Eq.{bytes_eq-Decides}
use Rattle.aa_base.specs.declared.fault.Spot.{Spot}
use Rattle.aa_model.specs.declared.policy.Profile.{Profile}
use Rattle.aa_explain.specs.declared.places.ProfilePlaces.{ProfilePlaces}
use Rattle.aa_command.specs.declared.decided.Decided.{Decided}
use Rattle.aa_compile.specs.Labels.{first_profiles}
use Rattle.aa_redundancy.specs.declared.places.PlaceNumbers.{PlaceNumbers}
use Rattle.aa_redundancy.specs.declared.reasons.Reason.{Reason}
use Rattle.aa_redundancy.specs.declared.redundant.Redundant.{Redundant}
use Rattle.aa_redundancy.specs.Going.{AreGoing}
use Rattle.aa_redundancy.specs.Places.{place_of, ProfileAlike, ProfileWithin}
use Rattle.aa_redundancy.specs.Kept.{KeptAlike, KeptWithin}
use Rattle.aa_redundancy.specs.Plain.{positions_from}
use Rattle.aa_redundancy.specs.Reasons.{IsReason, AreReasons}
use Rattle.aa_redundancy.specs.Unmatched.{StandWithin, MatchNothing, BesideNoneMatchNothing}
use Rattle.aa_redundant.specs.declared.places.RulePlace.{RulePlace}
use Rattle.aa_redundant.specs.Places.{path_at, same_place, place_in, spots_of, places_of, first_places, all_places}
use Rattle.aa_redundant.specs.Places.{number_in, numbers_known, first_numbers, all_numbers}
use Rattle.aa_redundant.specs.Command.{Spares, OfProfiles, NothingMatches}
use Rattle.aa_redundant.proofs.Knowing.{place_any}

later : (a b : Bool) → b ≡ true → (a || b) ≡ true
later true b e = refl
later false b e = e

module _ {X Y : Type 0} (f : Y → X) (test : X → Bool) where
  -- one of the first passes, or of those behind
  pub any_left : (a b : List Y) → list_any test (map f a) ≡ true → list_any test (map f (a ++ b)) ≡ true
  any_left [] b e = absurd (true≢false (sym e))
  any_left (y ∷ a) b e = ⊎_elim
      (λ (is : test (f y) ≡ true). ap (λ (h : Bool). h || list_any test (map f (a ++ b))) is)
      (λ (no : test (f y) ≡ false).
      later (test (f y)) (list_any test (map f (a ++ b))) (any_left a b (ap (λ (h : Bool). h || list_any test (map f a)) (sym no) ∙ e)))
      (cases_Bool (test (f y)))

  pub any_right : (a b : List Y) → list_any test (map f b) ≡ true → list_any test (map f (a ++ b)) ≡ true
  any_right [] b e = e
  any_right (y ∷ a) b e = later (test (f y)) (list_any test (map f (a ++ b))) (any_right a b e)

-- each of a list is among it
pub each_among : {X Y : Type 0} (f : Y → X) (same : X → X → Bool) → ((x : X) → same x x ≡ true) → (ys : List Y) (n : ℕ) (y : Y)
    → slice_get ys n ≡ Some y
    → list_any (same (f y)) (map f ys) ≡ true
each_among f same itself [] n y e = cc
each_among f same itself (z ∷ ys) zero y e =
    let is : z ≡ y = cc in
    ap (λ (h : Bool). h || list_any (same (f y)) (map f ys)) (subst (λ x. same (f y) (f x) ≡ true) (sym is) (itself (f y)))
each_among f same itself (z ∷ ys) (suc n) y e = later (same (f y) (f z)) (list_any (same (f y)) (map f ys)) (each_among f same itself ys n y e)

-- numbers below so many, and no others
pub all_below : {Y : Type 0} (number : Y → ℕ) (count : ℕ) → 0 < count → (ys : List Y)
    → ((n : ℕ) (y : Y) → slice_get ys n ≡ Some y → number y < count) → (n : ℕ)
    → place_of (map number ys) n < count
all_below number count some [] all n = some
all_below number count some (y ∷ ys) all zero = all 0 y refl
all_below number count some (y ∷ ys) all (suc n) = all_below number count some ys (λ m z e. all (suc m) z e) n

pub all_at : {X : Type 0} (P : X → Type 0) (xs : List X) (n : ℕ) (x : X) → All P xs → slice_get xs n ≡ Some x → P x
all_at P xs n x all e = subst P (get_or_from_slice_get xs n x x e) (All-get_or P xs n x (slice_get_within xs n x e) all)

-- where one passes, the first that does is within
first_within : {X : Type 0} (p : X → Bool) (xs : List X) → list_any p xs ≡ true → position_or_len p xs < length xs
first_within p [] e = absurd (true≢false (sym e))
first_within p (x ∷ xs) e = ⊎_elim
    (λ (is : p x ≡ true). rw is (omega arith))
    (λ (not_it : p x ≡ false).
    let behind : list_any p xs ≡ true = ap (λ (b : Bool). b || list_any p xs) (sym not_it) ∙ e in
    let within = first_within p xs behind in
    rw not_it (omega (arith, within)))
    (cases_Bool (p x))

pub number_within : {X : Type 0} (p : X → Bool) (xs : List X) → list_any p xs ≡ true → unwrap_or (position p xs) (length xs) < length xs
number_within p xs e =
    let within = first_within p xs e in
    subst (λ (b : Bool). unwrap_or (cond b (Some (position_or_len p xs)) None) (length xs) < length xs)
    (sym (lt-ltb (position_or_len p xs) (length xs) within)) within

module _ (d : Decided) where
  abbrev at_same : RulePlace → RulePlace → Bool
  at_same p q = same_place d.units.now p q

  abbrev count : ℕ
  count = length (all_places d)

  itself : (p : RulePlace) → at_same p p ≡ true
  itself p =
      let path = path_at d.units.now p in
      ap (λ (b : Bool). b && p.at.byte == p.at.byte) ((bytes_eq-Decides path path).1 refl) ∙ eq-eqb p.at.byte p.at.byte refl

  -- what passes of a profile's places passes of those of the first so many
  first_has : (test : RulePlace → Bool) (n k : ℕ) → k < n → list_any test (places_of (slice_get d.owners.now k) (slice_get d.places.now k)) ≡ true
      → list_any test (first_places d n) ≡ true
  first_has test zero k lt e = absurd (omega (arith, lt))
  first_has test (suc n) k lt e =
      let own : List RulePlace = places_of (slice_get d.owners.now n) (slice_get d.places.now n) in
      let whole = list_any-append test (first_places d n) own in
      ⊎_elim
      (λ (l : k < n). whole ∙ ap (λ (b : Bool). b || list_any test own) (first_has test n k l e))
      (λ (g : n ≤ k).
      let is : k ≡ n = omega (arith, lt, g) in
      whole ∙ later (list_any test (first_places d n)) (list_any test own)
      (subst (λ (j : ℕ). list_any test (places_of (slice_get d.owners.now j) (slice_get d.places.now j)) ≡ true) is e))
      (cases_lt k n)

  -- the number of a place of a profile's is that of one of all places
  number_below : (k n : ℕ) (of : ProfilePlaces) → k < length d.places.now → slice_get d.owners.now k ≡ Some n → slice_get d.places.now k ≡ Some of
      → (at : Spot) → list_any (at_same (place_in n at)) (map (place_in n) (spots_of of)) ≡ true → number_in d.units.now (all_places d) n at < count
  number_below k n of lt owner there at e =
      let test = at_same (place_in n at) in
      let own = subst (λ (o : Option ℕ). list_any test (places_of o (slice_get d.places.now k)) ≡ true) (sym owner)
      (subst (λ (t : Option ProfilePlaces). list_any test (places_of (Some n) t) ≡ true) (sym there) e) in
      number_within test (all_places d)
      (place_any d.units.now (place_in n at) (first_places d (length d.places.now)) (first_has test (length d.places.now) k lt own))

  module _ (some : 0 < count) where
    known_stand : (k : ℕ) (o : Option ℕ) (t : Option ProfilePlaces) → k < length d.places.now → slice_get d.owners.now k ≡ o
        → slice_get d.places.now k ≡ t
        → StandWithin count (numbers_known d.units.now (all_places d) o t)
    known_stand k (Some n) (Some of) lt owner there =
        let number : Spot → ℕ = number_in d.units.now (all_places d) n in
        let place : Spot → RulePlace = place_in n in
        let a = of.files.items in
        let b = of.caps.items in
        let c = of.nets.items in
        let e = of.changes.items in
        let below : (at : Spot) → list_any (at_same (place at)) (map place (spots_of of)) ≡ true → number at < count =
        number_below k n of lt owner there in
        let two = a ++ b in
        let three = two ++ c in
        let left = λ (xs ys : List Spot) (at : Spot). any_left place (at_same (place at)) xs ys in
        let right = λ (xs ys : List Spot) (at : Spot). any_right place (at_same (place at)) xs ys in
        let among : (xs : List Spot) (j : ℕ) (at : Spot) → slice_get xs j ≡ Some at → list_any (at_same (place at)) (map place xs) ≡ true =
        each_among place at_same itself in
        record {
          files = all_below number count some a (λ j at is. below at (left three e at (left two c at (left a b at (among a j at is)))));
          caps = all_below number count some b (λ j at is. below at (left three e at (left two c at (right a b at (among b j at is)))));
          nets = all_below number count some c (λ j at is. below at (left three e at (right two c at (among c j at is))));
          changes = all_below number count some e (λ j at is. below at (right three e at (among e j at is)));
        }
    known_stand k (Some n) None lt owner there = record { files = λ n. some; caps = λ n. some; nets = λ n. some; changes = λ n. some }
    known_stand k None t lt owner there = record { files = λ n. some; caps = λ n. some; nets = λ n. some; changes = λ n. some }

    numbers_stand : (n : ℕ) → n ≤ length d.places.now → All (StandWithin count) (first_numbers d (all_places d) n)
    numbers_stand zero le = λ k x lt. absurd (omega (arith, lt))
    numbers_stand (suc n) le =
        let own = numbers_known d.units.now (all_places d) (slice_get d.owners.now n) (slice_get d.places.now n) in
        All-push (StandWithin count) (first_numbers d (all_places d) n) own (numbers_stand n (omega (arith, le)))
        (known_stand n (slice_get d.owners.now n) (slice_get d.places.now n) (omega (arith, le)) refl refl)

-- where no place is marked, there is no reason
no_reasons : (flags : List Bool) (rs : List Reason) → length flags ≡ 0 → map (λ r. r.place) rs ≡ positions_from (λ (b : Bool). b) 0 flags
    → length rs ≡ 0
no_reasons [] [] none e = refl
no_reasons [] (r ∷ rs) none e = cc
no_reasons (f ∷ fs) rs none e = absurd (omega (arith, none))

-- rules that are redundant beside no other match nothing
pub nothing_matches : BesideNoneMatchNothing → (d : Decided) (held : List Bool) (r : Redundant) → AreGoing (Spares d r.untold.items) (length (all_places d)) held r.going
    → AreReasons (OfProfiles ProfileAlike KeptAlike d r.untold.items) (OfProfiles ProfileWithin KeptWithin d r.untold.items) r.going.alone.items r.reasons.items
    → NothingMatches d r
nothing_matches law d held r going reasons =
    let flags = r.going.alone.items in
    let rs = r.reasons.items in
    let us = r.untold.items in
    let ps = first_profiles d.policies.now in
    let Q : Reason → Type 0 = λ x. x.beside.items ≡ [] → (k : ℕ) (p : Profile) (m : PlaceNumbers) → slice_get ps k ≡ Some p
    → slice_get (all_numbers d) k ≡ Some m → MatchNothing p m x.place in
    ⊎_elim
    (λ (some : 0 < length (all_places d)).
    let stand : All (StandWithin (length (all_places d))) (all_numbers d) = numbers_stand d some (length d.places.now) (omega arith) in
    All-weaker (IsReason (OfProfiles ProfileAlike KeptAlike d us) (OfProfiles ProfileWithin KeptWithin d us) (length flags)) Q (λ x is none k p m here there.
    law ps (all_numbers d) us (length flags) x is none k p m here there
    (subst (λ (c : ℕ). StandWithin c m) (sym going.many_alone) (all_at (StandWithin (length (all_places d))) (all_numbers d) k m stand there)))
    rs reasons.each)
    (λ (none : length (all_places d) ≤ 0).
    let few : length flags ≡ 0 = omega (arith, none, going.many_alone) in
    let no' = no_reasons flags rs few reasons.places in
    λ j x lt. absurd (omega (arith, lt, no')))
    (cases_lt 0 (length (all_places d)))
