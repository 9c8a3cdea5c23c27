-- Rules by the numbers of their places, of which one may be that of several rules.
-- Source: own.
use Rattle.std.specs.Prelude.{ℕ, ◌<◌, List, Bool, Option, Some, slice_get, slice_index_or}
use Rattle.aa_model.specs.declared.policy.Profile.{Profile}
use Rattle.aa_redundancy.specs.declared.marks.RuleMark.{RuleMark}
use Rattle.aa_redundancy.specs.declared.places.PlaceNumbers.{PlaceNumbers}
use Rattle.aa_redundancy.specs.Without.{without}
use Rattle.aa_redundancy.specs.Sameness.{SameFiles, SameCaps, SameNets, SameChanges}
use Rattle.aa_redundancy.specs.Covering.{FilesWithin, CapsWithin, NetsWithin, ChangesWithin}

-- the place of a rule
abbrev pub place_of : List ℕ → ℕ → ℕ
place_of numbers n = slice_index_or numbers n 0

-- a rule is gone where its place is
abbrev pub gone_at : (ℕ → Bool) → List ℕ → ℕ → Bool
gone_at gone numbers n = gone (place_of numbers n)

-- what a rule says, by its place
abbrev pub at_place : List ℕ → RuleMark → RuleMark
at_place numbers m = record { rule = place_of numbers m.rule; mark = m.mark }

-- the rules of a profile say the same without those whose places are gone
pub record SameProfile (p : Profile) (ns : PlaceNumbers) (gone : ℕ → Bool) : Type 0 where
  pub files : SameFiles p.files (without (gone_at gone ns.files) p.files)
  pub caps : SameCaps p.caps (without (gone_at gone ns.caps) p.caps)
  pub nets : SameNets p.nets (without (gone_at gone ns.nets) p.nets)
  pub changes : SameChanges p.changes (without (gone_at gone ns.changes) p.changes)

-- they say without some what they say without others
pub record ProfileAlike (p : Profile) (ns : PlaceNumbers) (gone others : ℕ → Bool) : Type 0 where
  pub files : SameFiles (without (gone_at gone ns.files) p.files) (without (gone_at others ns.files) p.files)
  pub caps : SameCaps (without (gone_at gone ns.caps) p.caps) (without (gone_at others ns.caps) p.caps)
  pub nets : SameNets (without (gone_at gone ns.nets) p.nets) (without (gone_at others ns.nets) p.nets)
  pub changes : SameChanges (without (gone_at gone ns.changes) p.changes) (without (gone_at others ns.changes) p.changes)

-- what they say without some they say without others too
pub record ProfileWithin (p : Profile) (ns : PlaceNumbers) (gone others : ℕ → Bool) : Type 0 where
  pub files : FilesWithin (without (gone_at gone ns.files) p.files) (without (gone_at others ns.files) p.files)
  pub caps : CapsWithin (without (gone_at gone ns.caps) p.caps) (without (gone_at others ns.caps) p.caps)
  pub nets : NetsWithin (without (gone_at gone ns.nets) p.nets) (without (gone_at others ns.nets) p.nets)
  pub changes : ChangesWithin (without (gone_at gone ns.changes) p.changes) (without (gone_at others ns.changes) p.changes)

-- the same without those whose places are gone, where both are there
abbrev pub SameIn : Option Profile → Option PlaceNumbers → (ℕ → Bool) → Type 0
SameIn (Some p) (Some ns) gone = SameProfile p ns gone
SameIn _ _ gone = Unit {0}

-- so the first n profiles, each with its numbers
abbrev pub SameProfiles : List Profile → List PlaceNumbers → ℕ → (ℕ → Bool) → Type 0
SameProfiles ps ns n gone = (k : ℕ) → k < n → SameIn (slice_get ps k) (slice_get ns k) gone

-- something of a profile's rules without some and without others
abbrev pub OfProfile : Type 1
OfProfile = Profile → PlaceNumbers → (ℕ → Bool) → (ℕ → Bool) → Type 0

-- where both are there
abbrev pub HoldsIn : OfProfile → Option Profile → Option PlaceNumbers → (ℕ → Bool) → (ℕ → Bool) → Type 0
HoldsIn P (Some p) (Some ns) gone others = P p ns gone others
HoldsIn P _ _ gone others = Unit {0}

-- so of the first n profiles, each with its numbers
abbrev pub HoldsOf : OfProfile → List Profile → List PlaceNumbers → ℕ → (ℕ → Bool) → (ℕ → Bool) → Type 0
HoldsOf P ps ns n gone others = (k : ℕ) → k < n → HoldsIn P (slice_get ps k) (slice_get ns k) gone others
