-- The places where the rules of a policy of files stand, each once.
-- Source: own.
use Rattle.std.specs.Prelude.{◌≡◌, ℕ, zero, suc, ◌==◌, ◌&&◌, List, [], ◌∷◌, ◌++◌, length, map, filter, Bool, not, Option, Some, unwrap_or, position, slice_get}
use Rattle.std.specs.Option.{option_map_or}
use Rattle.std.specs.Str.{bytes_eq}
use Rattle.aa_base.specs.declared.fault.Spot.{Spot}
use Rattle.aa_files.specs.declared.unit.Unit as unit
use Rattle.aa_files.specs.Numbers.{path_in}
use Rattle.aa_explain.specs.declared.places.ProfilePlaces.{ProfilePlaces}
use Rattle.aa_command.specs.declared.decided.Decided.{Decided}
use Rattle.aa_redundancy.specs.declared.places.PlaceNumbers.{PlaceNumbers}
use Rattle.aa_redundant.specs.declared.places.RulePlace.{RulePlace}

-- the path of the file of a place
abbrev pub path_at : List unit.Unit → RulePlace → List ℕ
path_at us p = option_map_or (λ (u : unit.Unit). path_in u p.at.file) (slice_get us p.unit) []

-- the same byte of files of one path
abbrev pub same_place : List unit.Unit → RulePlace → RulePlace → Bool
same_place us p q = bytes_eq (path_at us p) (path_at us q) && p.at.byte == q.at.byte

-- the first of each, where some are the same
abbrev pub distinct : {X : Type 0} → (X → X → Bool) → List X → List X
distinct same [] = []
distinct same (x ∷ xs) = x ∷ filter (λ y. not (same x y)) (distinct same xs)

-- a byte of a file of a unit
abbrev pub place_in : ℕ → Spot → RulePlace
place_in n at = record { unit = n; at = at }

-- where the rules of a profile stand, sort by sort
abbrev pub spots_of : ProfilePlaces → List Spot
spots_of of = of.files.items ++ of.caps.items ++ of.nets.items ++ of.changes.items

-- so where the profile's unit and its places are there
abbrev pub places_of : Option ℕ → Option ProfilePlaces → List RulePlace
places_of (Some n) (Some of) = map (place_in n) (spots_of of)
places_of _ _ = []

-- of the rules of the first n profiles, in order
abbrev pub first_places : Decided → ℕ → List RulePlace
first_places d zero = []
first_places d (suc n) = first_places d n ++ places_of (slice_get d.owners.now n) (slice_get d.places.now n)

-- the places of all rules, each once, where it comes first
abbrev pub all_places : Decided → List RulePlace
all_places d = distinct (same_place d.units.now) (first_places d (length d.places.now))

-- the number of a place of a unit; one that isn't there would have the number behind all
abbrev pub number_in : List unit.Unit → List RulePlace → ℕ → Spot → ℕ
number_in us ps n at = unwrap_or (position (same_place us (place_in n at)) ps) (length ps)

-- those of a list
abbrev pub numbers_in : List unit.Unit → List RulePlace → ℕ → List Spot → List ℕ
numbers_in us ps n spots = map (number_in us ps n) spots

-- those of a profile's rules
abbrev pub numbers_of : List unit.Unit → List RulePlace → ℕ → ProfilePlaces → PlaceNumbers
numbers_of us ps n of = record {
  files = numbers_in us ps n of.files.items;
  caps = numbers_in us ps n of.caps.items;
  nets = numbers_in us ps n of.nets.items;
  changes = numbers_in us ps n of.changes.items;
}

-- where the profile's unit and its places are there
abbrev pub numbers_known : List unit.Unit → List RulePlace → Option ℕ → Option ProfilePlaces → PlaceNumbers
numbers_known us ps (Some n) (Some of) = numbers_of us ps n of
numbers_known us ps _ _ = record { files = []; caps = []; nets = []; changes = [] }

-- of the first n profiles
abbrev pub first_numbers : Decided → List RulePlace → ℕ → List PlaceNumbers
first_numbers d ps zero = []
first_numbers d ps (suc n) = first_numbers d ps n ++ numbers_known d.units.now ps (slice_get d.owners.now n) (slice_get d.places.now n) ∷ []

-- of all profiles, the numbers of the places of their rules
abbrev pub all_numbers : Decided → List PlaceNumbers
all_numbers d = first_numbers d (all_places d) (length d.places.now)
