-- The heads of profiles whose attachments account for a difference.
-- Source: own.
use Rattle.std.specs.Prelude.{ℕ, List, [], ◌∷◌, Option, Some}
use Rattle.std.specs.List.{slice_get}
use Rattle.std.specs.Option.{option_map_or}
use Rattle.aa_model.specs.declared.policy.Policy.{Policy}
use Rattle.aa_model.specs.declared.label.Label.{Label}
use Rattle.aa_model.specs.declared.request.Request.{Request}
use Rattle.aa_changed_rules.specs.Attachments.{attached_alone}
use Rattle.aa_explain.specs.declared.places.Extent.{Extent}
use Rattle.aa_explain.specs.declared.places.ProfilePlaces.{ProfilePlaces}
use Rattle.aa_files.specs.declared.unit.Unit as unit
use Rattle.aa_files.specs.Numbers.{path_in, text_in}
use Rattle.aa_rule_text.specs.RuleTexts.{head_text}
use Rattle.aa_command.specs.declared.decided.Decided.{Decided}
use Rattle.aa_ask.specs.Named.{stands_at, unit_in}
use Rattle.aa_diff.specs.declared.rules.Rule.{Rule}

-- the head that stands there in a unit
abbrev pub head_there : unit.Unit → Extent → Rule
head_there u x = record { path = path_in u x.at.file; place = stands_at (text_in u x.at.file) x.at.byte; text = head_text (text_in u x.at.file) x.at.byte x.end }

-- none can be shown where the profile's file or its places aren't there
abbrev pub head_by : Option unit.Unit → Option ProfilePlaces → List Rule
head_by (Some u) (Some places) = head_there u places.head ∷ []
head_by _ _ = []

-- the head of the profile of that number
abbrev pub head_of : Decided → ℕ → List Rule
head_of d n = head_by (unit_in d.units.now d.owners.now n) (slice_get d.places.now n)

-- the head of the profile that an execution finds by an attachment, where the other policies attach none of its name to the path
abbrev pub heads : Decided → List Policy → Label → Label → Request → List Rule
heads d qs l m r = option_map_or (head_of d) (attached_alone d.policies.now qs l m r) []
