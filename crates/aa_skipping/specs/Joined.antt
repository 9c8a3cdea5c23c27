-- A list of profiles to which such are joined that weren't read.
-- Source: own.
use Rattle.std.specs.Prelude.{◌≡◌, ◌≢◌, ◌⊎◌, ℕ, ◌<◌, List, length, Some, None, Contains, IsTrue, option_map}
use Rattle.std.specs.List.{slice_get}
use Rattle.aa_base.specs.declared.fault.Spot.{Spot}
use Rattle.aa_pattern.specs.declared.pattern.Pattern.{Pattern}
use Rattle.aa_model.specs.declared.policy.Profile.{Profile}
use Rattle.aa_compile.specs.Transitions.{child_name}
use Rattle.aa_skipping.specs.declared.unread.Head.{Head}
use Rattle.aa_skipping.specs.declared.unread.Unread.{Unread}

-- the profile as it stands among others: elsewhere in a text, and below its parent's new number; its name and its rules are the same
abbrev pub moved_profile : (ℕ → ℕ) → Spot → Profile → Profile
moved_profile place at p = record p { at = at; parent = option_map place p.parent }

-- a profile has the head's name, and attachments of the head alone
pub record HasHead (q : Profile) (h : Head) : Type 0 where
  pub called : q.name ≡ h.name
  pub attached : (a : Pattern) → Contains q.attachments a → Contains h.attachments a

-- a top-level profile that wasn't read: it has one of the heads, or there may be others and it is any
pub record IsUnreadTop (unread : Unread) (q : Profile) : Type 0 where
  pub top : q.parent ≡ None
  pub known : IsTrue unread.others ⊎ ((h : Head) × Contains unread.heads h × HasHead q h)

-- none of so many profiles is moved to that number
abbrev pub IsFree : ℕ → (ℕ → ℕ) → ℕ → Type 0
IsFree count place m = (n : ℕ) → n < count → place n ≢ m

-- a child that wasn't read: its parent wasn't either, and its full name is its parent's and one of its own
pub record IsUnreadChild (unread : Unread) (count : ℕ) (joined : List Profile) (place : ℕ → ℕ) (q : Profile) : Type 0 where
  pub number : ℕ
  pub parent : Profile
  pub name : List ℕ
  pub below : q.parent ≡ Some number
  pub stands : slice_get joined number ≡ Some parent
  pub not_read : IsFree count place number
  pub unread_too : IsUnreadTop unread parent
  pub called : q.name ≡ child_name parent.name name

-- The read profiles stand among the joined ones, each at its place; and each of these is one of them, or wasn't read.
-- (Children stand in their parent's text, so that those of a read profile are all read.)
pub record IsJoinedWith (unread : Unread) (read joined : List Profile) (place : ℕ → ℕ) : Type 0 where
  pub kept : (n : ℕ) (p : Profile) → slice_get read n ≡ Some p → (at : Spot) × (slice_get joined (place n) ≡ Some (moved_profile place at p))
  pub added : (m : ℕ) (q : Profile) → slice_get joined m ≡ Some q
      → ((n : ℕ) × (n < length read) × (place n ≡ m)) ⊎ (IsUnreadTop unread q ⊎ IsUnreadChild unread (length read) joined place q)
