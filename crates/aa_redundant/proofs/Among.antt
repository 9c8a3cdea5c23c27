-- Rules that can go, gone in the profiles that were read, among others.
use Rattle.std.proofs.Common.{◌≡◌, ◌≢◌, ◌⊎◌, ℕ, zero, suc, ◌<◌, ◌≤◌, List, [], ◌∷◌, length, Bool, true, false, Option, Some}
use Rattle.std.proofs.Common.{refl, sym, ap, ◌∙◌, subst, arith, ⊎_elim, inl, inr}
use Rattle.std.specs.Prelude.{◌==◌}
use Rattle.std.specs.List.{AllZip, slice_get}
use Rattle.std.proofs.lemmas.Bool.{cases_lt}
use Rattle.std.proofs.lemmas.Bool.Decides.{eqb_tells}
use Rattle.aa_base.specs.declared.fault.Spot.{Spot}
use Rattle.aa_model.specs.declared.policy.Profile.{Profile}
use Rattle.aa_model.specs.declared.rule.FileRule.{FileRule}
use Rattle.aa_model.specs.declared.rule.CapRule.{CapRule}
use Rattle.aa_model.specs.declared.rule.NetRule.{NetRule}
use Rattle.aa_model.specs.declared.rule.ChangeRule.{ChangeRule}
use Rattle.aa_skipping.specs.declared.unread.Unread.{Unread}
use Rattle.aa_skipping.specs.Joined.{moved_profile, IsJoinedWith, IsFree}
use Rattle.aa_redundancy.specs.declared.going.Going.{Going}
use Rattle.aa_redundancy.specs.declared.places.PlaceNumbers.{PlaceNumbers}
use Rattle.aa_redundancy.specs.Going.{AreGoing}
use Rattle.aa_redundancy.specs.Places.{SameProfile, SameIn, SameProfiles}
use Rattle.aa_redundancy.specs.Kept.{SameBut, KeptSaySame}
use Rattle.aa_redundancy.specs.Sameness.{SameFiles, SameCaps, SameNets, SameChanges, SaySame, SayingSameAnswersSame}
use Rattle.aa_redundancy.specs.Spared.{CanGo, OnePlace, AllPlaces, IsWithout}
use Rattle.aa_redundant.specs.Holding.{IsSparedAmong, SparedAmongOthers}

-- two lists are related element by element, where all at the same number are
zipped_by : (P : Profile → Profile → Type 0) (xs ys : List Profile) → length ys ≡ length xs
    → ((k : ℕ) (p q : Profile) → slice_get xs k ≡ Some p → slice_get ys k ≡ Some q → P p q) → AllZip P xs ys
zipped_by P [] [] e h = tt
zipped_by P (x ∷ xs) (y ∷ ys) e h = (h 0 x y refl refl, zipped_by P xs ys (omega (arith, e)) (λ k p q a b. h (suc k) p q a b))
zipped_by P [] (y ∷ ys) e h = absurd (omega (arith, e))
zipped_by P (x ∷ xs) [] e h = absurd (omega (arith, e))

-- a number is the place of one of so many, or of none
place_or_free : (count : ℕ) (place : ℕ → ℕ) (k : ℕ) → ((n : ℕ) × (n < count) × (place n ≡ k)) ⊎ IsFree count place k
place_or_free zero place k = inr (λ n lt. absurd (omega (arith, lt)))
place_or_free (suc c) place k =
    ⊎_elim (λ (h : (n : ℕ) × (n < c) × (place n ≡ k)). let lt = h.1 in inl (h.0, omega (arith, lt), h.2))
    (λ (free : IsFree c place k).
    ⊎_elim (λ (y : ((place c == k) ≡ true) × (place c ≡ k)). inl (c, omega arith, y.1))
    (λ (z : ((place c == k) ≡ false) × (place c ≢ k)). inr (λ n lt.
    ⊎_elim (λ (l : n < c). free n l)
    (λ (g : c ≤ n). λ e. let is : n ≡ c = omega (arith, lt, g) in z.1 (subst (λ (m : ℕ). place m ≡ k) is e)) (cases_lt n c)))
    (eqb_tells (place c) k))
    (place_or_free c place k)

-- what can go changes nothing
gone_same : (Same : (ℕ → Bool) → Type 0) (count : ℕ) (held : List Bool) (g : Going) → AreGoing Same count held g → (gone : ℕ → Bool)
    → CanGo count g gone → Same gone
gone_same Same count held g are gone (OnePlace i lt is e) = subst Same (sym e) ((are.alone i lt).0 is)
gone_same Same count held g are gone (AllPlaces e) = subst Same (sym e) are.all

-- a profile says what it says
say_same_self : (p : Profile) → SaySame p p
say_same_self p = record {
  name = refl;
  parent = refl;
  attachments = refl;
  complain = refl;
  audit = refl;
  files = λ path owned asked. (refl, refl);
  caps = λ n lt. refl;
  nets = λ f s lt less. refl;
  changes = λ name wanted. refl;
}

-- one that was read says the same without its rules that are gone, elsewhere in a text and below its parent's new number
moved_same : (gone : ℕ → Bool) (m : PlaceNumbers) (r : Profile) (place : ℕ → ℕ) (at : Spot) → SameProfile r m gone
    → SameProfile (moved_profile place at r) m gone
moved_same gone m r place at same = record { files = same.files; caps = same.caps; nets = same.nets; changes = same.changes }

says_same : (gone : ℕ → Bool) (m : PlaceNumbers) (p q : Profile) → SameProfile p m gone → IsWithout gone m p q → SaySame p q
says_same gone m p q same left = record {
  name = left.name;
  parent = left.parent;
  attachments = left.attachments;
  complain = left.complain;
  audit = left.audit;
  files = subst (λ (rs : List FileRule). SameFiles p.files rs) (sym left.files) same.files;
  caps = subst (λ (rs : List CapRule). SameCaps p.caps rs) (sym left.caps) same.caps;
  nets = subst (λ (rs : List NetRule). SameNets p.nets rs) (sym left.nets) same.nets;
  changes = subst (λ (rs : List ChangeRule). SameChanges p.changes rs) (sym left.changes) same.changes;
}

-- what is there at a number
there : {X : Type 0} (xs : List X) (n : ℕ) → n < length xs → (x : X) × (slice_get xs n ≡ Some x)
there [] n lt = absurd (omega (arith, lt))
there (x ∷ xs) zero lt = (x, refl)
there (x ∷ xs) (suc n) lt = there xs n (omega (arith, lt))

some_same : {X : Type 0} (x y : X) (o : Option X) → o ≡ Some x → o ≡ Some y → x ≡ y
some_same x y o one other =
    let both : Some x ≡ Some y = sym one ∙ other in
    cc

same_there : (o : Option Profile) (t : Option PlaceNumbers) (r : Profile) (m : PlaceNumbers) (gone : ℕ → Bool) → o ≡ Some r → t ≡ Some m
    → SameIn o t gone → SameProfile r m gone
same_there o t r m gone one other h =
    subst (λ (b : Option PlaceNumbers). SameIn (Some r) b gone) other (subst (λ (a : Option Profile). SameIn a t gone) one h)

module _ (unread : Unread) (read whole spared : List Profile) (place : ℕ → ℕ) (ns : List PlaceNumbers) (gone : ℕ → Bool)
    (wide : length ns ≡ length read) (same : SameProfiles read ns (length read) gone) (joined : IsJoinedWith unread read whole place)
    (left : IsSparedAmong gone ns (length read) place whole spared) where
  -- at the place of a profile that was read
  read_says : (n : ℕ) → n < length read → (p q : Profile) → slice_get whole (place n) ≡ Some p → slice_get spared (place n) ≡ Some q
      → SaySame p q
  read_says n lt p q here now =
      let r = there read n lt in
      let m = there ns n (omega (arith, lt, wide)) in
      let kept = joined.kept n r.0 r.1 in
      let is : moved_profile place kept.0 r.0 ≡ p = some_same (moved_profile place kept.0 r.0) p (slice_get whole (place n)) kept.1 here in
      let own : SameProfile r.0 m.0 gone = same_there (slice_get read n) (slice_get ns n) r.0 m.0 gone r.1 m.1 (same n lt) in
      says_same gone m.0 p q (subst (λ (x : Profile). SameProfile x m.0 gone) is (moved_same gone m.0 r.0 place kept.0 own))
      (left.read n lt m.0 p q m.1 here now)

  -- at each
  each_says : (k : ℕ) (p q : Profile) → slice_get whole k ≡ Some p → slice_get spared k ≡ Some q → SaySame p q
  each_says k p q here now =
      ⊎_elim
      (λ (h : (n : ℕ) × (n < length read) × (place n ≡ k)).
      read_says h.0 h.1 p q (ap (slice_get whole) h.2 ∙ here) (ap (slice_get spared) h.2 ∙ now))
      (λ (free : IsFree (length read) place k).
      subst (SaySame p) (some_same p q (slice_get whole k) here (sym (left.others k free) ∙ now)) (say_same_self p))
      (place_or_free (length read) place k)

  pub all_say : AllZip SaySame whole spared
  all_say = zipped_by SaySame whole spared left.many each_says

pub spared_among : SayingSameAnswersSame → KeptSaySame → SparedAmongOthers
spared_among law stay unread read whole spared place ns us count held g wide are gone can joined left l rs asked =
    let but = gone_same (SameBut us read.profiles ns (length read.profiles)) count held g are gone can in
    law whole spared
    (all_say unread read.profiles whole.profiles spared.profiles place ns gone wide (stay us read.profiles ns (length read.profiles) gone but) joined left)
    l rs asked
