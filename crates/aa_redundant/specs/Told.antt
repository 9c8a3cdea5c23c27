-- Rules as they are told.
-- Source: own.
use Rattle.std.specs.Prelude.{ℕ, List, [], ◌∷◌, map, flat_map, Bool, not, Option, Some, None, slice_get, if◌then◌else◌}
use Rattle.std.specs.Option.{option_map_or}
use Rattle.aa_base.specs.declared.fault.Spot.{Spot}
use Rattle.aa_text.specs.declared.position.PlaceAt.{PlaceAt}
use Rattle.aa_files.specs.declared.unit.Unit as unit
use Rattle.aa_files.specs.Links.{stands_at}
use Rattle.aa_files.specs.Numbers.{path_in, text_in}
use Rattle.aa_rule_text.specs.RuleTexts.{rule_text}
use Rattle.aa_redundancy.specs.declared.reasons.Reason.{Reason}
use Rattle.aa_redundancy.specs.Without.{without, marked}
use Rattle.aa_redundant.specs.declared.places.RulePlace.{RulePlace}
use Rattle.aa_redundant.specs.declared.told.ToldRule.{ToldRule}
use Rattle.aa_redundant.specs.declared.explained.ExplainedRule.{ExplainedRule}

-- a rule: where it stands, and how it reads
pub record Telling : Type 0 where
  pub path : List ℕ
  pub place : PlaceAt
  pub text : List ℕ

-- the same without where it lies in memory
abbrev pub telling : ToldRule → Telling
telling t = record { path = t.path.items; place = t.place; text = t.text.items }

-- the rule that stands there in a unit
abbrev pub rule_at : Spot → unit.Unit → Telling
rule_at at u = record {
  path = path_in u at.file;
  place = stands_at (text_in u at.file) at.byte;
  text = rule_text (text_in u at.file) at.byte;
}

-- so where the unit is there
abbrev pub rule_in : Spot → Option unit.Unit → List Telling
rule_in at None = []
rule_in at (Some u) = rule_at at u ∷ []

-- so of a place
abbrev pub rule_of : List unit.Unit → RulePlace → List Telling
rule_of us p = rule_in p.at (slice_get us p.unit)

-- the places that are marked
abbrev pub marked_places : List Bool → List RulePlace → List RulePlace
marked_places flags ps = without (λ n. not (marked flags n)) ps

-- the rules of the marked places
abbrev pub rules_of : List unit.Unit → List Bool → List RulePlace → List Telling
rules_of us flags ps = flat_map (rule_of us) (marked_places flags ps)

-- a redundant rule: other rules beside which alone it changes nothing, and whether they say all that it says or decide otherwise somewhere
pub record Explained : Type 0 where
  pub rule : Telling
  pub is_covered : Bool
  pub others : List Telling

-- the same without where it lies in memory
abbrev pub explaining : ExplainedRule → Explained
explaining e = record { rule = telling e.rule; is_covered = e.is_covered; others = map telling e.others.items }

-- the rule of the place of that number, where it is there
abbrev pub numbered : List unit.Unit → List RulePlace → ℕ → List Telling
numbered us ps n = option_map_or (rule_of us) (slice_get ps n) []

-- those of these numbers
abbrev pub all_numbered : List unit.Unit → List RulePlace → List ℕ → List Telling
all_numbered us ps ns = flat_map (numbered us ps) ns

-- a rule with its reason
abbrev pub explained_by : Bool → List Telling → Telling → Explained
explained_by is_covered others rule = record { rule = rule; is_covered = is_covered; others = others }

-- the rule of the place of a reason, where it is there
abbrev pub explained : List unit.Unit → List RulePlace → Reason → List Explained
explained us ps r = map (explained_by r.is_covered (all_numbered us ps r.beside.items)) (numbered us ps r.place)

-- so, unless its place is open
abbrev pub explained_if : List Bool → List unit.Unit → List RulePlace → Reason → List Explained
explained_if unsure us ps r = if marked unsure r.place then [] else explained us ps r

-- those of these reasons
abbrev pub all_explained : List Bool → List unit.Unit → List RulePlace → List Reason → List Explained
all_explained unsure us ps rs = flat_map (explained_if unsure us ps) rs

-- the rule of the place of a reason, where its place is open
abbrev pub open_if : List Bool → List unit.Unit → List RulePlace → Reason → List Telling
open_if unsure us ps r = if marked unsure r.place then numbered us ps r.place else []

-- those of these reasons
abbrev pub all_undecided : List Bool → List unit.Unit → List RulePlace → List Reason → List Telling
all_undecided unsure us ps rs = flat_map (open_if unsure us ps) rs
