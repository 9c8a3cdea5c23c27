-- Findings with their places and their rules.
-- Source: own.
use Rattle.std.specs.Prelude.{ℕ, ◌==◌, ◌&&◌, not, List, [], flat_map, Bool, false, Option, Some, None, option_map, option_to_list, option_and_then, unwrap_or, if◌then◌else◌}
use Rattle.std.specs.List.{slice_get}
use Rattle.aa_base.specs.declared.fault.Spot.{Spot}
use Rattle.aa_model.specs.declared.policy.Profile.{Profile}
use Rattle.aa_text.specs.declared.position.PlaceAt.{PlaceAt}
use Rattle.aa_explain.specs.declared.places.ProfilePlaces.{ProfilePlaces}
use Rattle.aa_files.specs.declared.unit.Unit as unit
use Rattle.aa_files.specs.Links.{stands_at}
use Rattle.aa_files.specs.Numbers.{path_in, text_in}
use Rattle.aa_rule_text.specs.RuleTexts.{rule_text}
use Rattle.aa_findings.specs.declared.finding.Finding.{Finding}
use Rattle.aa_findings.specs.declared.finding.Kind.{Kind}
use Rattle.aa_findings.specs.declared.finding.Kind.TheVariants.{Duplicate, Tie}
use Rattle.aa_findings.specs.declared.finding.Subject.{Subject}
use Rattle.aa_findings.specs.declared.finding.Subject.TheVariants.{Attachments, File, Cap, Net, Change}
use Rattle.aa_command.specs.declared.decided.Decided.{Decided}
use Rattle.aa_lint.specs.declared.told.Site.{Site}
use Rattle.aa_lint.specs.declared.told.Told.{Told}
use Rattle.aa_lint.specs.Names.{is_wanted}

-- a place in a file
pub record Standing : Type 0 where
  pub path : List ℕ
  pub place : PlaceAt

-- the same of what the code keeps
abbrev pub standing : Site → Standing
standing s = record { path = s.path.items; place = s.place }

-- a finding as it is told: where and of which profile, where the rule stands that is said again, which profile ties, a path that shows it, and
-- how the rule reads
pub record Telling : Type 0 where
  pub kind : Kind
  pub at : Standing
  pub profile : List ℕ
  pub earlier : Option Standing
  pub other : Option (List ℕ)
  pub witness : Option (List ℕ)
  pub rule : Option (List ℕ)

-- the same of what the code keeps
abbrev pub telling : Told → Telling
telling t = record {
  kind = t.kind;
  at = standing t.at;
  profile = t.profile.items;
  earlier = option_map standing t.earlier;
  other = option_map (λ n. n.items) t.other;
  witness = option_map (λ p. p.items) t.witness;
  rule = option_map (λ r. r.items) t.rule;
}

-- where the subject of a finding stands: a profile's name, or a rule
abbrev pub spot_of : ProfilePlaces → Subject → Option Spot
spot_of places Attachments = Some places.at
spot_of places (File n) = slice_get places.files.items n
spot_of places (Cap n) = slice_get places.caps.items n
spot_of places (Net n) = slice_get places.nets.items n
spot_of places (Change n) = slice_get places.changes.items n

-- the rule of another number in the same list
abbrev pub with_number : Subject → ℕ → Subject
with_number Attachments n = Attachments
with_number (File _) n = File n
with_number (Cap _) n = Cap n
with_number (Net _) n = Net n
with_number (Change _) n = Change n

-- a place of a unit
abbrev pub standing_at : unit.Unit → Spot → Standing
standing_at u at = record { path = path_in u at.file; place = stands_at (text_in u at.file) at.byte }

-- where the rule of that number stands
abbrev pub earlier_at : unit.Unit → ProfilePlaces → Subject → ℕ → Option Standing
earlier_at u places subject n = option_map (standing_at u) (spot_of places (with_number subject n))

-- where the rule stands that is said again
abbrev pub earlier_by : Kind → unit.Unit → ProfilePlaces → Finding → Option Standing
earlier_by Duplicate u places f = earlier_at u places f.subject (unwrap_or f.other 0)
earlier_by _ u places f = None

-- the places are one
abbrev pub same_spot : Option Spot → Option Spot → Bool
same_spot (Some a) (Some b) = a.file == b.file && a.byte == b.byte
same_spot (Some a) None = false
same_spot None b = false

-- a rule is said again where it stands itself: its file is read again
abbrev pub is_read_again : Kind → ProfilePlaces → Finding → Bool
is_read_again Duplicate places f = same_spot (spot_of places f.subject) (spot_of places (with_number f.subject (unwrap_or f.other 0)))
is_read_again _ places f = false

-- the name of a profile
abbrev pub name_at : List Profile → ℕ → Option (List ℕ)
name_at profiles n = option_map (λ (p : Profile). p.name) (slice_get profiles n)

-- the profile that ties
abbrev pub other_by : Kind → List Profile → Finding → Option (List ℕ)
other_by Tie profiles f = name_at profiles (unwrap_or f.other 0)
other_by _ profiles f = None

-- the text of a rule; none of attachments
abbrev pub rule_of : List ℕ → ℕ → Subject → Option (List ℕ)
rule_of text byte Attachments = None
rule_of text byte _ = Some (rule_text text byte)

-- a finding of the profile, at the place of its subject
abbrev pub told_at : List Profile → Profile → unit.Unit → ProfilePlaces → Finding → Spot → Telling
told_at profiles p u places f at = record {
  kind = f.kind;
  at = standing_at u at;
  profile = p.name;
  earlier = earlier_by f.kind u places f;
  other = other_by f.kind profiles f;
  witness = f.path;
  rule = rule_of (text_in u at.file) at.byte f.subject;
}

-- where it stands somewhere
abbrev pub told_of : List Profile → Profile → unit.Unit → ProfilePlaces → Finding → List Telling
told_of profiles p u places f = option_to_list (option_map (told_at profiles p u places f) (spot_of places f.subject))

-- the unit of a profile, where each profile has the number of its unit
abbrev pub unit_in : List unit.Unit → List ℕ → ℕ → Option unit.Unit
unit_in units owners n = option_and_then (slice_get units) (slice_get owners n)

-- where it isn't left out, nor of a rule that is said again where it stands itself
abbrev pub told_wanted : List (List ℕ) → List Profile → Profile → unit.Unit → ProfilePlaces → Finding → List Telling
told_wanted except profiles p u places f = if is_wanted except f && not (is_read_again f.kind places f) then told_of profiles p u places f else []

-- nothing is told where a profile's file or its places aren't there
abbrev pub told_if : List (List ℕ) → List Profile → Profile → Option unit.Unit → Option ProfilePlaces → List Finding → List Telling
told_if except profiles p (Some u) (Some places) found = flat_map (told_wanted except profiles p u places) found
told_if except profiles p _ _ found = []

-- the findings of profile n, which is p, as they are told, but for those of the names that are left out
abbrev pub all_told : Decided → List (List ℕ) → List Profile → ℕ → Profile → List Finding → List Telling
all_told d except profiles n p found = told_if except profiles p (unit_in d.units.now d.owners.now n) (slice_get d.places.now n) found
