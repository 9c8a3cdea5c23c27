-- Rules that say nothing, and so match nothing.
use Rattle.std.proofs.Common.{◌≡◌, ◌≢◌, ℕ, zero, suc, ◌+◌, ◌<◌, ◌-◌, List, [], ◌∷◌, length, map, filter}
use Rattle.std.proofs.Common.{Bool, true, false, true≢false, not, Option, Some, refl, sym, ap, ◌∙◌, subst, arith, Contains, ⊎_elim}
use Rattle.std.specs.Prelude.{◌==◌, ◌&&◌, bit_and, bit_or}
use Rattle.std.specs.List.{slice_get}
use Rattle.std.specs.Int.{bit_at}
use Rattle.std.specs.Int.Bits.{and_zero_l}
use Rattle.std.proofs.lemmas.Nat.{le_or_l, le_or_r}
use Rattle.std.proofs.lemmas.Nat.Bits.{bit_at_and, bit_at_or, bit_at-zero, same_from_bits}
use Rattle.std.proofs.lemmas.Bool.{lt-ltb}
use Rattle.std.proofs.lemmas.Option.{slice_get_within}
use Rattle.std.proofs.lemmas.Bool.Decides.{eqb_tells}
use Rattle.aa_base.specs.Permissions.{every_bit}
use Rattle.aa_model.specs.declared.policy.Profile.{Profile}
use Rattle.aa_compile.specs.declared.sets.RuleSets.{RuleSets}
use Rattle.aa_compile.specs.FileRules.{any_sort, applies_by, saying}
use Rattle.aa_compile.specs.Holding.{cap_holds, net_holds, change_holds}
use Rattle.aa_compile.specs.Said.{Saying, said, both, nothing, verdict, granted}
use Rattle.aa_mediate.specs.Held.{saying as plain}
use Rattle.aa_redundancy.specs.declared.rights.Rights.{Rights}
use Rattle.aa_redundancy.specs.declared.places.PlaceNumbers.{PlaceNumbers}
use Rattle.aa_redundancy.specs.Rights.{rights}
use Rattle.aa_redundancy.specs.Without.{without_from, without}
use Rattle.aa_redundancy.specs.declared.fault.UntoldProfile.{UntoldProfile}
use Rattle.aa_redundancy.specs.Places.{place_of, gone_at, ProfileAlike, OfProfile, HoldsIn}
use Rattle.aa_redundancy.specs.Kept.{IsTold, KeptAlike, HoldsBut}
use Rattle.aa_redundancy.specs.Reasons.{all_but, but_one, ChangesNothing}
use Rattle.aa_redundancy.specs.Unmatched.{StandWithin, MatchNothing, BesideNoneMatchNothing}
use Rattle.aa_redundancy.proofs.Untold.{told_or}

first_none : (a b : ℕ) → bit_or a b ≡ 0 → a ≡ 0
first_none a b e = omega (arith, le_or_l a b, e)

second_none : (a b : ℕ) → bit_or a b ≡ 0 → b ≡ 0
second_none a b e = omega (arith, le_or_r a b, e)

-- of two numbers joined, of whose bits none is among these, so of the first
first_apart : (a b m : ℕ) → bit_and (bit_or a b) m ≡ 0 → bit_and a m ≡ 0
first_apart a b m e = same_from_bits (bit_and a m) 0 (λ i.
    let whole : bit_at (bit_and (bit_or a b) m) i ≡ bit_at 0 i = ap (λ n. bit_at n i) e in
    omega (arith, whole, bit_at_and (bit_or a b) m i, bit_at_or a b i, bit_at_and a m i, bit_at-zero i))

second_apart : (a b m : ℕ) → bit_and (bit_or a b) m ≡ 0 → bit_and b m ≡ 0
second_apart a b m e = same_from_bits (bit_and b m) 0 (λ i.
    let whole : bit_at (bit_and (bit_or a b) m) i ≡ bit_at 0 i = ap (λ n. bit_at n i) e in
    omega (arith, whole, bit_at_and (bit_or a b) m i, bit_at_or a b i, bit_at_and b m i, bit_at-zero i))

-- nothing is granted and nothing denied
record IsSilent (v : RuleSets) : Type 0 where
  pub denied : v.deny.0 ≡ 0
  pub allowed : bit_and v.allow.0 every_bit ≡ 0

silent_by : (v : RuleSets) → rights v ≡ rights nothing → IsSilent v
silent_by v e =
    let none : v.deny.0 ≡ 0 = ap (λ (r : Rights). r.denied.0) e in
    let few : granted v ≡ 0 = ap (λ (r : Rights). r.granted.0) e in
    record { denied = none; allowed = ap (λ (n : ℕ). bit_and v.allow.0 (every_bit - n)) (sym none) ∙ few }

silent_first : (v w : RuleSets) → IsSilent (both v w) → IsSilent v
silent_first v w s = record { denied = first_none v.deny.0 w.deny.0 s.denied; allowed = first_apart v.allow.0 w.allow.0 every_bit s.allowed }

silent_second : (v w : RuleSets) → IsSilent (both v w) → IsSilent w
silent_second v w s = record { denied = second_none v.deny.0 w.deny.0 s.denied; allowed = second_apart v.allow.0 w.allow.0 every_bit s.allowed }

-- a saying that says nothing is of no bits
no_bits : (audit deny : Bool) (bits : ℕ) → IsSilent (said (record { audit = audit; deny = deny; bits = bits })) → bit_and bits every_bit ≡ 0
no_bits audit true bits s = ap (λ (n : ℕ). bit_and n every_bit) s.denied ∙ and_zero_l every_bit
no_bits audit false bits s = s.allowed

module _ {X : Type 0} (say : X → Saying) (test : X → Bool) where
  abbrev said_of : List X → RuleSets
  said_of xs = verdict (map say (filter test xs))

  -- where what is left says nothing, so does what is left behind the first
  rest_silent : (b : Bool) (y : X) (rest : List X) → test y ≡ b → IsSilent (said_of (y ∷ rest)) → IsSilent (said_of rest)
  rest_silent true y rest e s = silent_second (said (say y)) (said_of rest) (rw e at s)
  rest_silent false y rest e s = rw e at s

  -- and a first one that says something isn't left by the test
  first_silent : (b : Bool) (y : X) (rest : List X) → test y ≡ b → IsSilent (said_of (y ∷ rest)) → (bit_and (say y).bits every_bit ≡ 0 → ⊥)
      → test y ≡ false
  first_silent true y rest e s some = absurd (some (no_bits (say y).audit (say y).deny (say y).bits (silent_first (said (say y)) (said_of rest) (rw e at s))))
  first_silent false y rest e s some = e

  module _ (gone : ℕ → Bool) where
    at : (b : Bool) (k : ℕ) (y : X) (rest : List X) → gone k ≡ b → IsSilent (said_of (without_from gone k (y ∷ rest)))
        → IsSilent (said_of (without_from gone (suc k) rest))
    at true k y rest e s = rw e at s
    at false k y rest e s = rest_silent (test y) y (without_from gone (suc k) rest) refl (rw e at s)

    -- of what is left, where it says nothing, what says something isn't left by the test
    none_left : (xs : List X) (k n : ℕ) (x : X) → IsSilent (said_of (without_from gone k xs)) → slice_get xs n ≡ Some x → gone (k + n) ≡ false
        → (bit_and (say x).bits every_bit ≡ 0 → ⊥) → test x ≡ false
    none_left [] k n x s e stays some = cc
    none_left (y ∷ ys) k zero x s e stays some =
        let is : y ≡ x = cc in
        let here : gone k ≡ false = ap gone (omega arith) ∙ stays in
        subst (λ (z : X). test z ≡ false) is
        (first_silent (test y) y (without_from gone (suc k) ys) refl (rw here at s)
        (subst (λ (z : X). bit_and (say z).bits every_bit ≡ 0 → ⊥) (sym is) some))
    none_left (y ∷ ys) k (suc n) x s e stays some =
        none_left ys (suc k) n x (at (gone k) k y ys refl s) e (ap gone (omega arith) ∙ stays) some

-- nothing is left of what is all gone
all_gone : {X : Type 0} (gone : ℕ → Bool) → ((n : ℕ) → gone n ≡ true) → (k : ℕ) (xs : List X) → without_from gone k xs ≡ []
all_gone gone all k [] = refl
all_gone gone all k (x ∷ xs) = rw (all k) (all_gone gone all (suc k) xs)

-- a place below so many is gone where all but none of them are
below_gone : (count n : ℕ) → n < count → all_but count [] n ≡ true
below_gone count n lt = ap (λ (b : Bool). b && true) (lt-ltb n count lt)

-- but place i isn't
place_stays : (count i n : ℕ) → n ≡ i → but_one i (all_but count []) n ≡ false
place_stays count i n e =
    let same : (n == i) ≡ true = ⊎_elim (λ (y : ((n == i) ≡ true) × (n ≡ i)). y.0)
    (λ (z : ((n == i) ≡ false) × (n ≢ i)). absurd (z.1 e)) (eqb_tells n i) in
    last (all_but count [] n) (n == i) same
  where
    last : (a b : Bool) → b ≡ true → (a && not b) ≡ false
    last true true h = refl
    last false true h = refl
    last a false h = absurd (true≢false (sym h))

-- beside no other the rules at a place say nothing, and so hold for nothing, where they say something
silent_place : {X : Type 0} (say : X → Saying) (test : X → Bool) (numbers : List ℕ) (count i : ℕ) (xs : List X)
    → ((n : ℕ) → place_of numbers n < count)
    → rights (said_of say test (without (gone_at (all_but count []) numbers) xs))
    ≡ rights (said_of say test (without (gone_at (but_one i (all_but count [])) numbers) xs))
    → (n : ℕ) (x : X) → slice_get xs n ≡ Some x → place_of numbers n ≡ i → (bit_and (say x).bits every_bit ≡ 0 → ⊥) → test x ≡ false
silent_place {X} say test numbers count i xs below same n x here at_i some =
    let none : without (gone_at (all_but count []) numbers) xs ≡ [] =
    all_gone (gone_at (all_but count []) numbers) (λ m. below_gone count (place_of numbers m) (below m)) 0 xs in
    let left = without (gone_at (but_one i (all_but count [])) numbers) xs in
    let says : rights (said_of say test left) ≡ rights nothing = sym same ∙ ap (λ (l : List X). rights (said_of say test l)) none in
    none_left say test (gone_at (but_one i (all_but count [])) numbers) xs 0 n x (silent_by (said_of say test left) says) here
    (ap (gone_at (but_one i (all_but count [])) numbers) (omega arith) ∙ place_stays count i (place_of numbers n) at_i) some

-- the one bit that a rule names which isn't about files
one_bit : bit_and 1 every_bit ≡ 0 → ⊥
one_bit e = omega (arith, e)

-- the rules of a profile at a place that changes nothing beside no other
at_place : (p : Profile) (m : PlaceNumbers) (count i : ℕ) → StandWithin count m → ChangesNothing (ProfileAlike p m) i (all_but count [])
    → MatchNothing p m i
at_place p m count i within same = record {
  files = λ n r here at_i some path asked.
      silent_place saying (applies_by any_sort path true) m.files count i p.files within.files (same.files path true asked).0 n r here at_i some;
  caps = λ n r here at_i c lt.
      silent_place (λ x. plain x.audit x.deny) (cap_holds c) m.caps count i p.caps within.caps (same.caps c lt) n r here at_i one_bit;
  nets = λ n r here at_i f s lt less.
      silent_place (λ x. plain x.audit x.deny) (net_holds f s) m.nets count i p.nets within.nets (same.nets f s lt less) n r here at_i one_bit;
  changes = λ n r here at_i name wanted.
      silent_place (λ x. plain x.audit x.deny) (change_holds name) m.changes count i p.changes within.changes (same.changes name wanted) n r here at_i one_bit;
}

-- a rule that is gone exactly where it isn't, at that place, is none
never : (numbers : List ℕ) (count i n : ℕ) → place_of numbers n < count
    → gone_at (all_but count []) numbers n ≡ gone_at (but_one i (all_but count [])) numbers n → place_of numbers n ≡ i → ⊥
never numbers count i n lt same at_i = true≢false (sym (below_gone count (place_of numbers n) lt) ∙ (same ∙ place_stays count i (place_of numbers n) at_i))

-- so a profile that can't be told has none at the place
kept_at : (p : Profile) (m : PlaceNumbers) (count i : ℕ) → StandWithin count m → ChangesNothing (KeptAlike p m) i (all_but count []) → MatchNothing p m i
kept_at p m count i within same = record {
  files = λ n r here at_i some path asked. absurd (never m.files count i n (within.files n) (same.files n (slice_get_within p.files n r here)) at_i);
  caps = λ n r here at_i c lt. absurd (never m.caps count i n (within.caps n) (same.caps n (slice_get_within p.caps n r here)) at_i);
  nets = λ n r here at_i f s lt less. absurd (never m.nets count i n (within.nets n) (same.nets n (slice_get_within p.nets n r here)) at_i);
  changes = λ n r here at_i name wanted. absurd (never m.changes count i n (within.changes n) (same.changes n (slice_get_within p.changes n r here)) at_i);
}

there_too : (P : OfProfile) (o : Option Profile) (t : Option PlaceNumbers) (p : Profile) (m : PlaceNumbers) (gone others : ℕ → Bool) → o ≡ Some p → t ≡ Some m
    → HoldsIn P o t gone others → P p m gone others
there_too P o t p m gone others one other h =
    subst (λ (b : Option PlaceNumbers). HoldsIn P (Some p) b gone others) other
    (subst (λ (a : Option Profile). HoldsIn P a t gone others) one h)

pub beside_none : BesideNoneMatchNothing
beside_none ps ns us count r is none k p m here there within =
    let same = subst (λ (l : List ℕ). ChangesNothing (HoldsBut ProfileAlike KeptAlike us ps ns (length ps)) r.place (all_but count l)) none is.suffice in
    let gone = all_but count [] in
    let others = but_one r.place (all_but count []) in
    ⊎_elim
    (λ (told : IsTold us k). at_place p m count r.place within
    (there_too ProfileAlike (slice_get ps k) (slice_get ns k) p m gone others here there (same.told k (slice_get_within ps k p here) told)))
    (λ (found : (u : UntoldProfile) × Contains us u × (u.number ≡ k)). kept_at p m count r.place within
    (there_too KeptAlike (slice_get ps k) (slice_get ns k) p m gone others here there
    (subst (λ (i : ℕ). HoldsIn KeptAlike (slice_get ps i) (slice_get ns i) gone others) found.2 (same.kept found.0 found.1))))
    (told_or us k)
