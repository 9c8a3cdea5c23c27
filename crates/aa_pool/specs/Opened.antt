-- What an engine is when it is opened, and what shutting all lanes does.
use Rattle.std.specs.Prelude.{◌≡◌, ℕ, ◌<◌, ◌≤◌, ◌⊎◌, Some, List, map, length, All, slice_index_or}
use Rattle.aa_lane.specs.Ends.{LaneSeen, OwnerSeen, ServerSeen, ShutterSeen, IsCapacity, known, new_owner, new_server, new_shutter}
use Rattle.aa_lane.specs.Answers.{HappensAt, shut_of}
use Rattle.aa_lane.specs.declared.cells.Who.TheVariants.{ByShutter}
use Rattle.aa_lane.specs.declared.event.Event.TheVariants.{Shut}
use Rattle.aa_lane.specs.declared.event.Reply.TheVariants.{Count}
use Rattle.aa_pool.specs.declared.engine.EngineFault.{EngineFault}
use Rattle.aa_pool.specs.declared.engine.EngineFault.TheVariants.{NoMemory, BadCapacity, TooManyLanes}

module _ {M S Q A : Type 0} (machine : M) (starts : List S) (capacity : ℕ) where
  -- lane i has the tag i and the opening state i
  pub record AreOpened (lanes : List (LaneSeen M S)) (owners : List (OwnerSeen M S Q A)) (servers : List (ServerSeen M S Q A)) (shutters : List (ShutterSeen M S Q A)) : Type 0 where
    pub terms : All (λ l. (l.machine ≡ machine) × (l.table.slots ≡ capacity)) lanes
    pub starts_are : map (λ l. l.start) lanes ≡ starts
    pub tags : (i : ℕ) (d : LaneSeen M S) → i < length lanes → (slice_index_or lanes i d).tag ≡ i
    pub owners_are : owners ≡ map new_owner lanes
    pub servers_are : servers ≡ map new_server lanes
    pub shutters_are : shutters ≡ map new_shutter lanes

-- end i is of lane i
pub record AreEndsOf {M S Q A : Type 0} (lanes : List (LaneSeen M S)) (owners : List (OwnerSeen M S Q A)) (servers : List (ServerSeen M S Q A)) (shutters : List (ShutterSeen M S Q A)) : Type 0 where
  pub owners_of : map (λ o. o.lane) owners ≡ map known lanes
  pub servers_of : map (λ s. s.lane) servers ≡ map known lanes
  pub shutters_of : map (λ s. s.lane) shutters ≡ map known lanes

-- so many lanes of this capacity aren't opened for this cause
abbrev pub Denies : EngineFault → ℕ → ℕ → Type 0
Denies NoMemory n c = (n ≤ 1024) × IsCapacity c
Denies BadCapacity n c = (n ≤ 1024) × ((c ≡ 0) ⊎ (1024 < c))
Denies TooManyLanes n c = 1024 < n

module _ {M S Q A : Type 0} (next : M → S → Q → S) (reply : M → S → Q → A) where
  -- a shutter has shut its lane, and was given this count; one that had shut before was given the same count
  pub record HasShut (l : LaneSeen M S) (old new : ShutterSeen M S Q A) (n : ℕ) : Type 0 where
    pub is : new ≡ shut_of old n new.log
    pub happens : HappensAt next reply l ByShutter old.log Shut (Count n) new.log
    pub again : (c : ℕ) → old.count ≡ Some c → n ≡ c

  -- each has, and that is its count
  abbrev pub AreShut : List (LaneSeen M S) → List (ShutterSeen M S Q A) → List (ShutterSeen M S Q A) → List ℕ → Type 0
  AreShut lanes old new counts = (i : ℕ) (l : LaneSeen M S) (d : ShutterSeen M S Q A) → i < length old → HasShut (slice_index_or lanes i l) (slice_index_or old i d) (slice_index_or new i d) (slice_index_or counts i 0)
