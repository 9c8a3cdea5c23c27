-- What became of the lanes of all tasks.
use Rattle.std.specs.Prelude.{◌≡◌, ℕ, List, [], ◌∷◌, map, take}
use Rattle.aa_lane.specs.WorldState.{most_accepted}
use Rattle.aa_lane.specs.Ends.{LaneSeen, new_shutter}
use Rattle.aa_lane.specs.Totals.{HasOneOrder}
use Rattle.aa_lane.specs.declared.lane.Ends.{Ends}
use Rattle.aa_pool.specs.declared.close.Outcome.{Outcome}

module _ {M S Q A : Type 0} (next : M → S → Q → S) (reply : M → S → Q → A) where
  -- a lane was closed: all that happened at it is told by its plain world, the requests that were answered were accepted, up to as many as a lane accepts in all, each of them was answered and collected, and only its owner shut it
  pub record WasClosed (l : LaneSeen M S) (o : Outcome M S Q A) : Type 0 where
    pub ends : Ends M S Q A
    pub order : HasOneOrder next reply l ends o.totals
    pub sent : ends.owner.sent ≡ take most_accepted (map (λ a. a.request) o.answers.items)
    pub all : (o.totals.answered ≡ o.totals.accepted) × (o.totals.collected ≡ o.totals.accepted)
    pub alone : ends.shutter ≡ new_shutter l

  -- each lane was closed
  abbrev pub WereClosed : List (LaneSeen M S) → List (Outcome M S Q A) → Type 0
  WereClosed [] [] = Unit {0}
  WereClosed [] (o ∷ os) = ⊥
  WereClosed (l ∷ ls) [] = ⊥
  WereClosed (l ∷ ls) (o ∷ os) = WasClosed l o × WereClosed ls os

module _ {M S Q A : Type 0} (next : M → S → Q → S) (reply : M → S → Q → A) (m : M) (c : ℕ) where
  -- an outcome is that of a lane of the machine, of this opening state and capacity, which was closed
  pub record IsOutcome (s : S) (o : Outcome M S Q A) : Type 0 where
    pub lane : LaneSeen M S
    pub machine : lane.machine ≡ m
    pub start : lane.start ≡ s
    pub capacity : lane.table.slots ≡ c
    pub closed : WasClosed next reply lane o

  -- each is, from these opening states on
  abbrev pub AreOutcomes : List S → List (Outcome M S Q A) → Type 0
  AreOutcomes [] [] = Unit {0}
  AreOutcomes [] (o ∷ os) = ⊥
  AreOutcomes (s ∷ ss) [] = ⊥
  AreOutcomes (s ∷ ss) (o ∷ os) = IsOutcome s o × AreOutcomes ss os
