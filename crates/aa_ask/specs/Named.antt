-- The rules that a verdict names, and what it says that no rule allows, as the reasons of the answer have them.
-- Source: own.
use Rattle.std.specs.Prelude.{ℕ, List, [], ◌∷◌, ◌++◌, ◌==◌, Bool, true, false, Option, Some, option_map, option_to_list, option_and_then, if◌then◌else◌, slice_get, flat_map}
use Rattle.aa_base.specs.declared.fault.Spot.{Spot}
use Rattle.aa_model.specs.declared.policy.Policy.{Policy}
use Rattle.aa_model.specs.declared.policy.Profile.{Profile}
use Rattle.aa_model.specs.declared.label.Label.{Label}
use Rattle.aa_model.specs.declared.request.Request.{Request}
use Rattle.aa_base.specs.Values.{letters}
use Rattle.aa_text.specs.Places.{place_in}
use Rattle.aa_text.specs.declared.position.PlaceAt.{PlaceAt}
use Rattle.aa_explain.specs.declared.deciders.Decider.{Decider}
use Rattle.aa_explain.specs.declared.deciders.Listed.{Listed}
use Rattle.aa_explain.specs.declared.deciders.Listed.TheVariants.{Files}
use Rattle.aa_explain.specs.declared.places.ProfilePlaces.{ProfilePlaces}
use Rattle.aa_explain.specs.Deciders.{Reasons}
use Rattle.aa_explain.specs.Sayings.{reasons_of, target_reasons}
use Rattle.aa_files.specs.declared.unit.Unit as unit
use Rattle.aa_files.specs.Numbers.{path_in, text_in}
use Rattle.aa_rule_text.specs.RuleTexts.{rule_text}
use Rattle.aa_ask.specs.declared.explained.DeciderLine.{DeciderLine}
use Rattle.aa_ask.specs.declared.explained.Lack.{Lack}
use Rattle.aa_command.specs.declared.decided.Decided.{Decided}
use Rattle.aa_ask.specs.Verdicts.{profile_at, number_in, spots_of}

-- a rule that decided: where it stands, which permissions it decided, and how its line reads
pub record Named : Type 0 where
  pub is_target : Bool
  pub denies : Bool
  pub path : List ℕ
  pub place : PlaceAt
  pub letters : List ℕ
  pub text : List ℕ

-- a rule that decided, without where it lies in memory
abbrev pub named : DeciderLine → Named
named l = record { is_target = l.is_target; denies = l.denies; path = l.path.items; place = l.place; letters = l.letters.items; text = l.text.items }

-- what no rule allows
pub record Lacked : Type 0 where
  pub is_target : Bool
  pub letters : List ℕ

-- letters that no rule allows, without where they lie in memory
abbrev pub lacked : Lack → Lacked
lacked l = record { is_target = l.is_target; letters = l.letters.items }

-- permissions have letters where a file is asked for
abbrev pub letters_for : Listed → ℕ → List ℕ
letters_for Files bits = letters bits
letters_for _ bits = []

-- a byte of a text with its line and column
abbrev pub stands_at : List ℕ → ℕ → PlaceAt
stands_at text byte = record { line = (place_in text byte).line; column = (place_in text byte).column; byte = byte }

-- a rule that stands there in a unit, with what it decided
abbrev pub named_at : unit.Unit → Listed → Bool → Bool → ℕ → Spot → Named
named_at u listed target denies bits at = record {
  is_target = target;
  denies = denies;
  path = path_in u at.file;
  place = stands_at (text_in u at.file) at.byte;
  letters = letters_for listed bits;
  text = rule_text (text_in u at.file) at.byte;
}

-- a decider's rule, where its profile has a place for it
abbrev pub named_by : unit.Unit → ProfilePlaces → Listed → Bool → Bool → Decider → List Named
named_by u places listed target denies d =
    option_to_list (option_map (named_at u listed target denies d.perms.0) (slice_get (spots_of listed places) d.rule))

-- first the rules that deny, then those that allow
abbrev pub names_in : unit.Unit → ProfilePlaces → Bool → Reasons → List Named
names_in u places target r =
    flat_map (named_by u places r.listed target true) r.denies ++ flat_map (named_by u places r.listed target false) r.allows

-- the letters that no rule allows, if there are any
abbrev pub lacks_in : Bool → Reasons → List Lacked
lacks_in target r = if r.lacking == 0 then [] else record { is_target = target; letters = letters_for r.listed r.lacking } ∷ []

-- the rules that decide at a request's object, and behind them those that decide at a link's target
abbrev pub names_of : unit.Unit → ProfilePlaces → Option Reasons → Option Reasons → List Named
names_of u places here target = flat_map (names_in u places false) (option_to_list here) ++ flat_map (names_in u places true) (option_to_list target)

-- those of a request, and those of a link's target
abbrev pub lacks_of : Option Reasons → Option Reasons → List Lacked
lacks_of here target = flat_map (lacks_in false) (option_to_list here) ++ flat_map (lacks_in true) (option_to_list target)

-- none can be shown where the profile's file or its places aren't there
abbrev pub names_at : Option unit.Unit → Option ProfilePlaces → Option Reasons → Option Reasons → List Named
names_at (Some u) (Some places) here target = names_of u places here target
names_at _ _ here target = []

-- the unit of a profile, where each profile has the number of its unit
abbrev pub unit_in : List unit.Unit → List ℕ → ℕ → Option unit.Unit
unit_in units owners n = option_and_then (slice_get units) (slice_get owners n)

-- why a task with that label is answered so; one that isn't confined has no reasons
abbrev pub why_here : List Policy → Label → Request → Option Reasons
why_here policies label request = option_and_then (λ (p : Profile). reasons_of p request) (profile_at policies label)

-- the rules that decide at a link's target
abbrev pub why_target : List Policy → Label → Request → Option Reasons
why_target policies label request = option_and_then (λ (p : Profile). target_reasons p request) (profile_at policies label)

-- the rules that decide a request of a task with that label, and what no rule of its profile allows
abbrev pub named_for : Decided → Label → Request → List Named
named_for d label request =
    names_at (unit_in d.units.now d.owners.now (number_in label)) (slice_get d.places.now (number_in label))
    (why_here d.policies.now label request) (why_target d.policies.now label request)

-- the letters of a request that no rule allows
abbrev pub lacked_for : Decided → Label → Request → List Lacked
lacked_for d label request = lacks_of (why_here d.policies.now label request) (why_target d.policies.now label request)
