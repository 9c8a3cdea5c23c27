-- Profiles of which it can't be told what their rules say: none of these goes.
-- Source: own.
use Rattle.std.specs.Prelude.{◌≡◌, ℕ, ◌<◌, List, Bool, false, length, Contains, Some, slice_get}
use Rattle.aa_model.specs.declared.policy.Profile.{Profile}
use Rattle.aa_redundancy.specs.declared.fault.UntoldProfile.{UntoldProfile}
use Rattle.aa_redundancy.specs.declared.places.PlaceNumbers.{PlaceNumbers}
use Rattle.aa_redundancy.specs.Faults.{Exceeds}
use Rattle.aa_redundancy.specs.Tables.{none_gone}
use Rattle.aa_redundancy.specs.Places.{gone_at, SameIn, OfProfile, HoldsIn}

-- a profile that is there, of whose rules on files or on changes of the profile there is too much of what is said
pub record IsUntold (ps : List Profile) (limit : ℕ) (u : UntoldProfile) : Type 0 where
  pub profile : Profile
  pub there : slice_get ps u.number ≡ Some profile
  pub exceeds : Exceeds profile limit u.why

-- the profile of that number is none of these
abbrev pub IsTold : List UntoldProfile → ℕ → Type 0
IsTold us k = (u : UntoldProfile) → Contains us u → u.number ≡ k → ⊥

-- of so many rules the same are gone
abbrev pub GoneAlike : ℕ → (ℕ → Bool) → (ℕ → Bool) → Type 0
GoneAlike count gone others = (n : ℕ) → n < count → gone n ≡ others n

-- of so many rules those that aren't gone aren't among the others either
abbrev pub GoneWithin : ℕ → (ℕ → Bool) → (ℕ → Bool) → Type 0
GoneWithin count gone others = (n : ℕ) → n < count → gone n ≡ false → others n ≡ false

-- the same rules of a profile are gone, by their places
pub record KeptAlike (p : Profile) (ns : PlaceNumbers) (gone others : ℕ → Bool) : Type 0 where
  pub files : GoneAlike (length p.files) (gone_at gone ns.files) (gone_at others ns.files)
  pub caps : GoneAlike (length p.caps) (gone_at gone ns.caps) (gone_at others ns.caps)
  pub nets : GoneAlike (length p.nets) (gone_at gone ns.nets) (gone_at others ns.nets)
  pub changes : GoneAlike (length p.changes) (gone_at gone ns.changes) (gone_at others ns.changes)

-- those that aren't gone aren't among the others either
pub record KeptWithin (p : Profile) (ns : PlaceNumbers) (gone others : ℕ → Bool) : Type 0 where
  pub files : GoneWithin (length p.files) (gone_at gone ns.files) (gone_at others ns.files)
  pub caps : GoneWithin (length p.caps) (gone_at gone ns.caps) (gone_at others ns.caps)
  pub nets : GoneWithin (length p.nets) (gone_at gone ns.nets) (gone_at others ns.nets)
  pub changes : GoneWithin (length p.changes) (gone_at gone ns.changes) (gone_at others ns.changes)

-- something of the rules of each of the first n profiles, and something else of those of profiles that can't be told
pub record HoldsBut (Told Kept : OfProfile) (us : List UntoldProfile) (ps : List Profile) (ns : List PlaceNumbers) (n : ℕ) (gone others : ℕ → Bool) : Type 0 where
  pub told : (k : ℕ) → k < n → IsTold us k → HoldsIn Told (slice_get ps k) (slice_get ns k) gone others
  pub kept : (u : UntoldProfile) → Contains us u → HoldsIn Kept (slice_get ps u.number) (slice_get ns u.number) gone others

-- the first n profiles say the same without the rules whose places are gone, and of profiles that can't be told no rule is gone
pub record SameBut (us : List UntoldProfile) (ps : List Profile) (ns : List PlaceNumbers) (n : ℕ) (gone : ℕ → Bool) : Type 0 where
  pub told : (k : ℕ) → k < n → IsTold us k → SameIn (slice_get ps k) (slice_get ns k) gone
  pub kept : (u : UntoldProfile) → Contains us u → HoldsIn KeptAlike (slice_get ps u.number) (slice_get ns u.number) gone none_gone

-- so all of them say the same
abbrev pub KeptSaySame : Type 0
KeptSaySame = (us : List UntoldProfile) (ps : List Profile) (ns : List PlaceNumbers) (n : ℕ) (gone : ℕ → Bool) → SameBut us ps ns n gone
    → (k : ℕ) → k < n → SameIn (slice_get ps k) (slice_get ns k) gone
