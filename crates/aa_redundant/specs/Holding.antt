-- Redundant rules are so too in the policy of all files, whatever profiles the skipped ones have.
-- Source: own.
use Rattle.std.specs.Prelude.{◌≡◌, ℕ, ◌<◌, List, Bool, length, Some, slice_get}
use Rattle.std.specs.List.{All}
use Rattle.aa_model.specs.declared.policy.Policy.{Policy}
use Rattle.aa_model.specs.declared.policy.Profile.{Profile}
use Rattle.aa_model.specs.declared.label.Label.{Label}
use Rattle.aa_model.specs.declared.request.Request.{Request}
use Rattle.aa_representatives.specs.Askable.{IsAskable}
use Rattle.aa_skipping.specs.declared.unread.Unread.{Unread}
use Rattle.aa_skipping.specs.Joined.{IsJoinedWith, IsFree}
use Rattle.aa_redundancy.specs.declared.fault.UntoldProfile.{UntoldProfile}
use Rattle.aa_redundancy.specs.declared.going.Going.{Going}
use Rattle.aa_redundancy.specs.declared.places.PlaceNumbers.{PlaceNumbers}
use Rattle.aa_redundancy.specs.Going.{AreGoing}
use Rattle.aa_redundancy.specs.Kept.{SameBut}
use Rattle.aa_redundancy.specs.Sameness.{answers_to}
use Rattle.aa_redundancy.specs.Spared.{CanGo, IsWithout}

-- the policy of all files without rules of the profiles that were read: each of these, at its place, is without those that are gone, and the others
-- are as they are
pub record IsSparedAmong (gone : ℕ → Bool) (ns : List PlaceNumbers) (count : ℕ) (place : ℕ → ℕ) (whole spared : List Profile) : Type 0 where
  pub many : length spared ≡ length whole
  pub read : (n : ℕ) → n < count → (m : PlaceNumbers) (p q : Profile) → slice_get ns n ≡ Some m → slice_get whole (place n) ≡ Some p
      → slice_get spared (place n) ≡ Some q → IsWithout gone m p q
  pub others : (k : ℕ) → IsFree count place k → slice_get spared k ≡ slice_get whole k

-- A policy of all files, whatever profiles the skipped ones have by their heads, answers every list of requests as the same without the rules of a
-- place that can go by itself, or of all places that can go together, in the profiles that were read.
abbrev pub SparedAmongOthers : Type 0
SparedAmongOthers = (unread : Unread) (read whole spared : Policy) (place : ℕ → ℕ) (ns : List PlaceNumbers) (us : List UntoldProfile) (count : ℕ) (held : List Bool) (g : Going)
    → length ns ≡ length read.profiles → AreGoing (SameBut us read.profiles ns (length read.profiles)) count held g → (gone : ℕ → Bool) → CanGo count g gone
    → IsJoinedWith unread read.profiles whole.profiles place → IsSparedAmong gone ns (length read.profiles) place whole.profiles spared.profiles
    → (l : Label) (rs : List Request) → All IsAskable rs → answers_to whole l rs ≡ answers_to spared l rs
