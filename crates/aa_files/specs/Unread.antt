-- The steps of the sources that aren't read yet, as the code keeps them.
-- Source: own.
use Rattle.std.specs.Prelude.{ℕ, ◌+◌, ◌≡◌, true, false, List, [], ◌∷◌, length, reverse, Option, Some, None, slice_get, Vec}
use Rattle.std.specs.declared.alloc.Global.{Global}
use Rattle.aa_files.specs.declared.unit.Unit as unit
use Rattle.aa_files.specs.declared.trail.Step.{Step}
use Rattle.aa_files.specs.Trails.{AreSteps, is_new}

-- the steps of a text, the first one last, where it isn't read yet
abbrev pub Slot : Type 0
Slot = Option (Vec Step Global)

-- what a node's slot says: its steps, if it is new
abbrev pub Says : unit.Unit → List Step → ℕ → Option Slot → Type 0
Says u met node None = is_new u met node ≡ false
Says u met node (Some None) = is_new u met node ≡ false
Says u met node (Some (Some steps)) = (is_new u met node ≡ true) × AreSteps u node (reverse steps.items)

-- what is still to be walked leads nowhere that isn't met
pub record IsUnread (u : unit.Unit) (met : List Step) (slots : List Slot) : Type 0 where
  pub each : (node : ℕ) → Says u met node (slice_get slots node)

-- how many steps are still to come
abbrev pub slot_size : Slot → ℕ
slot_size None = 0
slot_size (Some steps) = length steps.items

-- how many steps are left at most
abbrev pub steps_left : List Slot → ℕ
steps_left [] = 0
steps_left (s ∷ ss) = slot_size s + steps_left ss
