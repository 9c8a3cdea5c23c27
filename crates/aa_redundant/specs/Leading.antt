-- Rules that may lead to profiles of skipped files, by their places.
-- Source: own.
use Rattle.std.specs.Prelude.{◌≡◌, ℕ, zero, suc, ◌<◌, List, [], ◌∷◌, ◌++◌, length, flat_map, Bool, Option, Some, slice_get, if◌then◌else◌}
use Rattle.std.specs.Option.{option_map_or}
use Rattle.aa_model.specs.declared.rule.FileRule.{FileRule}
use Rattle.aa_model.specs.declared.rule.ChangeRule.{ChangeRule}
use Rattle.aa_model.specs.declared.policy.Policy.{Policy}
use Rattle.aa_model.specs.declared.policy.Profile.{Profile}
use Rattle.aa_command.specs.declared.decided.Decided.{Decided}
use Rattle.aa_skipping.specs.declared.unread.Unread.{Unread}
use Rattle.aa_skipped.specs.declared.skipped.Skipped.{Skipped}
use Rattle.aa_differences.specs.Openings.{is_open_rule, is_open_change}
use Rattle.aa_redundancy.specs.declared.places.PlaceNumbers.{PlaceNumbers}
use Rattle.aa_redundancy.specs.Places.{place_of}
use Rattle.aa_redundancy.specs.Reasons.{is_one_of}
use Rattle.aa_redundancy.specs.Without.{marked}
use Rattle.aa_redundant.specs.Places.{all_places, all_numbers}

-- a place, where its rule may lead there
abbrev pub place_if : Bool → ℕ → List ℕ
place_if is_open place = if is_open then place ∷ [] else []

-- the places of those of the rules on files, with numbers from k on, by which an execution may lead to a profile that wasn't read: by the name
-- behind an arrow, which no profile has that was read, or by its attachments
abbrev pub open_files : List Profile → Unread → Profile → List ℕ → ℕ → List FileRule → List ℕ
open_files profiles unread p ns k [] = []
open_files profiles unread p ns k (r ∷ rs) = place_if (is_open_rule profiles unread p r) (place_of ns k) ++ open_files profiles unread p ns (suc k) rs

-- of those on changes of the profile, by which a task may change to such a profile, by its name
abbrev pub open_changes : Unread → List ℕ → ℕ → List ChangeRule → List ℕ
open_changes unread ns k [] = []
open_changes unread ns k (r ∷ rs) = place_if (is_open_change unread r) (place_of ns k) ++ open_changes unread ns (suc k) rs

-- of both, where the profile and the numbers of its places are there
abbrev pub open_in : List Profile → Unread → Option Profile → Option PlaceNumbers → List ℕ
open_in profiles unread (Some p) (Some ns) = open_files profiles unread p ns.files 0 p.files ++ open_changes unread ns.changes 0 p.changes
open_in profiles unread _ _ = []

-- of the first n profiles
abbrev pub first_open : List Profile → List PlaceNumbers → Unread → ℕ → List ℕ
first_open profiles ns unread zero = []
first_open profiles ns unread (suc n) = first_open profiles ns unread n ++ open_in profiles unread (slice_get profiles n) (slice_get ns n)

-- the places of the rules that may lead to a profile of a skipped file
abbrev pub open_by : List Profile → List PlaceNumbers → Skipped → List ℕ
open_by profiles ns k = first_open profiles ns k.unread (length profiles)

-- of one of these files, by the one policy
unfoldable pub open_places : List Policy → List PlaceNumbers → List Skipped → List ℕ
open_places policies ns skipped = option_map_or (λ (p : Policy). flat_map (open_by p.profiles ns) skipped) (slice_get policies 0) []

-- exactly the places of such rules are marked
pub record AreOpen (d : Decided) (skipped : List Skipped) (flags : List Bool) : Type 0 where
  pub wide : length flags ≡ length (all_places d)
  pub each : (n : ℕ) → n < length (all_places d) → marked flags n ≡ is_one_of (open_places d.policies.now (all_numbers d) skipped) n
