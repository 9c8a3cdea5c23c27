-- The rules of profiles that are passed over, and the flags without effect, as they read.
-- Source: own.
use Rattle.std.specs.Prelude.{ℕ, List, [], ◌++◌, codes, map, Option, Some, slice_get}
use Rattle.aa_text.specs.declared.position.PlaceAt.{PlaceAt}
use Rattle.aa_explain.specs.declared.places.Extent.{Extent}
use Rattle.aa_explain.specs.declared.places.ProfilePlaces.{ProfilePlaces}
use Rattle.aa_files.specs.declared.unit.Unit as unit
use Rattle.aa_files.specs.Numbers.{path_in, text_in}
use Rattle.aa_rule_text.specs.RuleTexts.{words_text}
use Rattle.aa_command.specs.declared.decided.Decided.{Decided}
use Rattle.aa_ask.specs.Named.{stands_at, unit_in}
use Rattle.aa_passed_over.specs.declared.listed.ListedRule.{ListedRule}

-- a rule that is passed over, or a flag without effect: where it stands, and how it reads
pub record Listed : Type 0 where
  pub path : List ℕ
  pub place : PlaceAt
  pub text : List ℕ

-- the same without where it lies in memory
abbrev pub listed : ListedRule → Listed
listed r = record { path = r.path.items; place = r.place; text = r.text.items }

-- the rule that stands there in a unit
abbrev pub listed_at : unit.Unit → Extent → Listed
listed_at u x = record {
  path = path_in u x.at.file;
  place = stands_at (text_in u x.at.file) x.at.byte;
  text = words_text (text_in u x.at.file) x.at.byte x.end;
}

-- a flag reads as where it stands alone, with a comma as a rule has one: flags=(FLAG),
abbrev pub alone_text : List ℕ → List ℕ
alone_text flag = codes "flags=(" ++ flag ++ codes "),"

-- the same rule under such a text
abbrev pub as_flag : Listed → Listed
as_flag r = record { path = r.path; place = r.place; text = alone_text r.text }

-- the flag that stands there in a unit
abbrev pub flag_at : unit.Unit → Extent → Listed
flag_at u x = as_flag (listed_at u x)

-- the flags without effect of a profile in a unit, and behind them its rules that are passed over
abbrev pub all_listed : unit.Unit → ProfilePlaces → List Listed
all_listed u places = map (flag_at u) places.flags.items ++ map (listed_at u) places.passed_over.items

-- none can be told where the profile's file or its places aren't there
abbrev pub listed_by : Option unit.Unit → Option ProfilePlaces → List Listed
listed_by (Some u) (Some places) = all_listed u places
listed_by _ _ = []

-- the flags without effect and the rules that are passed over of the profile of that number
abbrev pub listed_in : Decided → ℕ → List Listed
listed_in d n = listed_by (unit_in d.units.now d.owners.now n) (slice_get d.places.now n)
