-- Verdicts as they are printed in JSON.
-- Source: own.
use Rattle.std.specs.Prelude.{ℕ, List, [], ◌++◌, ◌||◌, map, find, codes, Bool, true, false, not, if◌then◌else◌, Option, Some, None, option_map}
use Rattle.std.specs.List.{filter, list_any}
use Rattle.aa_text.specs.Jsons.{json_bytes, json_place, key_text, bool_text, member_text, member_if, list_text}
use Rattle.aa_ask.specs.Named.{Named, Lacked}
use Rattle.aa_ask.specs.Told.{Told}

-- the end of a rule that decided: it tells where that was at a link's target
abbrev pub decider_end : Bool → List ℕ
decider_end is_target = if is_target then codes ",\"target\":true}" else codes "}"

-- a rule that decided, as JSON
unfoldable pub json_decider : Named → List ℕ
json_decider n =
    codes "{" ++ json_place n.path (Some n.place) ++ member_text (codes "letters") (json_bytes n.letters) ++ decider_end n.is_target

-- it is a rule that denies, or one that allows, as is wanted
abbrev pub decides_so : Bool → Named → Bool
decides_so denies n = if denies then n.denies else not n.denies

-- the key of the rules that denied, or that allowed
abbrev pub deciders_key : Bool → List ℕ
deciders_key denies = if denies then codes "denies" else codes "allows"

-- the rules that deny, or those that allow
abbrev pub json_each : Bool → List Named → List (List ℕ)
json_each denies names = map json_decider (filter (decides_so denies) names)

-- the rules that denied or allowed, as a member
unfoldable pub json_deciders : Bool → List Named → List ℕ
json_deciders denies names = codes "," ++ key_text (deciders_key denies) ++ list_text (json_each denies names)

-- it was decided at a link's target, or at the object itself, as is wanted
abbrev pub lacks_there : Bool → Lacked → Bool
lacks_there is_target k = if is_target then k.is_target else not k.is_target

-- the key of the letters that no rule allows, here or at a link's target
abbrev pub lacking_key : Bool → List ℕ
lacking_key is_target = if is_target then codes "target_lacking" else codes "lacking"

-- the letters that no rule allows, as JSON
abbrev pub json_letters : Option Lacked → List ℕ
json_letters None = codes "\"\""
json_letters (Some k) = json_bytes k.letters

-- what no rule allows, at the object or at a link's target
unfoldable pub json_lacking : Bool → List Lacked → List ℕ
json_lacking is_target lacks = codes "," ++ key_text (lacking_key is_target) ++ json_letters (find (lacks_there is_target) lacks)

-- something was decided at a link's target
abbrev pub has_target : Told → Bool
has_target t = list_any (λ (n : Named). n.is_target) t.deciders || list_any (λ (k : Lacked). k.is_target) t.lacking

-- the letters that no rule allows at a link's target, as a member
abbrev pub target_lacking : Told → List ℕ
target_lacking t = if has_target t then json_lacking true t.lacking else []

-- what is missing besides, and the end
abbrev pub json_end : Option (List ℕ) → List ℕ
json_end None = codes "}"
json_end (Some what) = codes "," ++ key_text (codes "missing") ++ codes "\"" ++ what ++ codes "\"" ++ codes "}"

-- who asks, as a member: the full name of the profile, or null where the task isn't confined
abbrev pub asker_member : Option (List ℕ) → List ℕ
asker_member None = member_text (codes "profile") (codes "null")
asker_member (Some name) = member_text (codes "profile") (json_bytes name)

-- a request with its verdict
unfoldable pub json_granted : Told → List ℕ
json_granted t = codes "{" ++ key_text (codes "request") ++ json_bytes t.word ++ asker_member t.asker ++ member_text (codes "granted") (bool_text t.granted)

-- the answer: the request, and what the mediator says of it
unfoldable pub json_answer : Told → List ℕ
json_answer t =
    json_granted t ++ member_if (codes "label") (option_map json_bytes t.label) ++ member_text (codes "scrub") (bool_text t.scrub)
    ++ member_text (codes "complain") (bool_text t.complain)

-- why: the rules that allow, those that deny, what no rule allows, and what is missing besides
unfoldable pub json_reasons : Told → List ℕ
json_reasons t =
    json_deciders false t.deciders ++ json_deciders true t.deciders ++ json_lacking false t.lacking ++ target_lacking t ++ json_end t.unfound

-- a verdict as a JSON object
abbrev pub json_verdict : Told → List ℕ
json_verdict t = json_answer t ++ json_reasons t

-- one JSON list and a line end
abbrev pub json_verdicts : List Told → List ℕ
json_verdicts ts = list_text (map json_verdict ts) ++ codes "\n"
