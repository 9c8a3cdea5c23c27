-- The rules that account for a difference: all that one profile has and the other hasn't, that match its request and name some of what it asks for.
-- Source: own.
use Rattle.std.specs.Prelude.{ℕ, ◌≡◌, List, [], ◌++◌, flat_map, codes, Bool, Option, Some, None, option_map, option_to_list, if◌then◌else◌}
use Rattle.std.specs.List.{slice_get}
use Rattle.std.specs.Option.{option_map_or}
use Rattle.std.specs.declared.cmp.Ordering.{Ordering}
use Rattle.std.specs.Ordering.{ordering_then, nat_cmp, is_lt}
use Rattle.std.specs.Cmp.Lexicographic.{slice_cmp}
use Rattle.aa_base.specs.declared.fault.Spot.{Spot}
use Rattle.aa_text.specs.Visible.{all_visible}
use Rattle.aa_text.specs.Texts.{where_text}
use Rattle.aa_model.specs.declared.policy.Policy.{Policy}
use Rattle.aa_model.specs.declared.policy.Profile.{Profile}
use Rattle.aa_model.specs.declared.label.Label.{Label}
use Rattle.aa_model.specs.declared.request.Request.{Request}
use Rattle.aa_model.specs.declared.request.Request.TheVariants.{Cap, Net, Change}
use Rattle.aa_changed_rules.specs.Changed.{Changed, changed, changed_data}
use Rattle.aa_changed_rules.specs.Matching.{rules_on}
use Rattle.aa_explain.specs.declared.deciders.Listed.{Listed}
use Rattle.aa_explain.specs.declared.deciders.Listed.TheVariants.{Files, Caps, Nets, Changes}
use Rattle.aa_explain.specs.declared.places.ProfilePlaces.{ProfilePlaces}
use Rattle.aa_files.specs.declared.unit.Unit as unit
use Rattle.aa_files.specs.Numbers.{path_in, text_in}
use Rattle.aa_rule_text.specs.RuleTexts.{rule_text}
use Rattle.aa_command.specs.declared.decided.Decided.{Decided}
use Rattle.aa_ask.specs.Verdicts.{profile_at, number_in, spots_of}
use Rattle.aa_ask.specs.Named.{stands_at, unit_in}
use Rattle.aa_diff.specs.declared.rules.Rule.{Rule}
use Rattle.aa_diff.specs.declared.rules.OwnRules.{OwnRules}
use Rattle.aa_diff.specs.Sorted.{sorted_by}

-- ---- what one of two profiles alone has

-- the rules of a profile that another one hasn't, if there are both
abbrev pub own_by : Option Profile → Option Profile → Changed
own_by (Some p) (Some q) = changed p q
own_by _ _ = record { files = []; caps = []; nets = []; changes = [] }

-- those of the profile at a label that the one at another label hasn't
abbrev pub own_at : List Policy → List Policy → Label → Label → Changed
own_at ps qs l m = own_by (profile_at ps l) (profile_at qs m)

-- so of the profiles at two labels
pub record AreOwn (ps qs : List Policy) (l m : Label) (own : OwnRules) : Type 0 where
  pub from : own.from ≡ l
  pub to : own.to ≡ m
  pub old : changed_data own.old ≡ own_at ps qs l m
  pub new : changed_data own.new ≡ own_at qs ps m l

-- ---- those that account for a difference

-- the list of a profile's rules that a request is about
abbrev pub listed_of : Request → Listed
listed_of (Cap cap) = Caps
listed_of (Net family kind) = Nets
listed_of (Change name) = Changes
listed_of _ = Files

-- of a profile's own rules those that match a request and name some of what it asks for, if the label has a profile
abbrev pub own_on : List Policy → Changed → Label → Request → List ℕ
own_on ps c l r = option_map_or (rules_on r c) (profile_at ps l) []

-- the rule that stands there in a unit
abbrev pub rule_there : unit.Unit → Spot → Rule
rule_there u at = record { path = path_in u at.file; place = stands_at (text_in u at.file) at.byte; text = rule_text (text_in u at.file) at.byte }

-- the rule of that number, if it has a place
abbrev pub rule_of : unit.Unit → List Spot → ℕ → List Rule
rule_of u spots n = option_to_list (option_map (rule_there u) (slice_get spots n))

-- the rules of these numbers
abbrev pub rules_in : unit.Unit → List Spot → List ℕ → List Rule
rules_in u spots ns = flat_map (rule_of u spots) ns

-- rules go by their paths in byte order, then by line, then by column
abbrev pub rule_cmp : Rule → Rule → Ordering
rule_cmp r s = ordering_then (slice_cmp nat_cmp r.path s.path) (ordering_then (nat_cmp r.place.line s.place.line) (nat_cmp r.place.column s.place.column))

-- one rule stands before another
abbrev pub stands_before : Rule → Rule → Bool
stands_before r s = is_lt (rule_cmp r s)

-- none can be shown where the profile's file or its places aren't there; they go by their places
abbrev pub rules_by : Option unit.Unit → Option ProfilePlaces → Listed → List ℕ → List Rule
rules_by (Some u) (Some places) listed ns = sorted_by stands_before (rules_in u (spots_of listed places) ns)
rules_by _ _ listed ns = []

-- all rules of a profile's own that match a request and name some of what it asks for, whatever they say of it
abbrev pub accounting : Decided → Changed → Label → Request → List Rule
accounting d c l r =
    rules_by (unit_in d.units.now d.owners.now (number_in l)) (slice_get d.places.now (number_in l)) (listed_of r) (own_on d.policies.now c l r)

-- those that are told
abbrev pub told_rules : Bool → Decided → Changed → Label → Request → List Rule
told_rules minor d c l r = if minor then [] else accounting d c l r

-- ---- as text

-- a rule with its side's mark: PATH:LINE:COLUMN: RULE
unfoldable pub rule_line : List ℕ → Rule → List ℕ
rule_line mark r = codes "      " ++ mark ++ where_text r.path r.place ++ codes ": " ++ all_visible r.text ++ codes "\n"

-- the rules of both sides
abbrev pub rules_text : List Rule → List Rule → List ℕ
rules_text old new = flat_map (rule_line (codes "- ")) old ++ flat_map (rule_line (codes "+ ")) new
