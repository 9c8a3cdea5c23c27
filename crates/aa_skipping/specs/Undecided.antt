-- Requests whose answer profiles that weren't read could change.
-- Source: own.
use Rattle.std.specs.Prelude.{ℕ, List, codes, Bool, true, false, Option, Some, None, not, ◌&&◌, ◌||◌, is_some}
use Rattle.std.specs.Option.{option_map_or, option_and_then}
use Rattle.std.specs.List.{list_any, slice_get}
use Rattle.std.specs.Str.{bytes_eq}
use Rattle.aa_model.specs.declared.rule.ExecKind.{ExecKind}
use Rattle.aa_model.specs.declared.rule.ExecKind.TheVariants.{Inherit, Unconfined, Profile as Named, Child}
use Rattle.aa_model.specs.declared.rule.Exec.{Exec}
use Rattle.aa_model.specs.declared.rule.FileRule.{FileRule}
use Rattle.aa_model.specs.declared.rule.ChangeRule.{ChangeRule}
use Rattle.aa_model.specs.declared.policy.Profile.{Profile}
use Rattle.aa_model.specs.declared.label.Label.{Label}
use Rattle.aa_model.specs.declared.label.Label.TheVariants.{Unconfined as Free, Confined}
use Rattle.aa_model.specs.declared.request.Request.{Request}
use Rattle.aa_model.specs.declared.request.Request.TheVariants.{Exec as Execute, Change}
use Rattle.aa_model.specs.Requests.{RequestedExec}
use Rattle.aa_model.specs.Lawful.{has_exec}
use Rattle.aa_compile.specs.FileRules.{file_verdict, chosen, way_of}
use Rattle.aa_compile.specs.Holding.{change_holds}
use Rattle.aa_compile.specs.Transitions.{child_name, target_of}
use Rattle.aa_skipping.specs.declared.unread.Unread.{Unread}
use Rattle.aa_skipping.specs.Searches.{is_open}
use Rattle.aa_skipping.specs.Names.{is_doubtful}

-- Where a way to execute leads isn't known: it searches by attachment, or it has a name behind its arrow that is in doubt.
-- (The children of a profile are read with it, so that a search among them is always decided.)
abbrev pub is_unsure : List Profile → Unread → Profile → List ℕ → ExecKind → Option (List ℕ) → Bool
is_unsure profiles unread p path Named None = is_open profiles unread path
is_unsure profiles unread p path Named (Some name) = is_doubtful profiles unread name
is_unsure profiles unread p path Child None = false
is_unsure profiles unread p path Child (Some name) = not (is_some p.parent) && is_doubtful profiles unread (child_name p.name name)
is_unsure profiles unread p path Inherit _ = false
is_unsure profiles unread p path Unconfined _ = false

-- the same of the way that a rule says
abbrev pub is_unsure_way : List Profile → Unread → Profile → List ℕ → Exec → Bool
is_unsure_way profiles unread p path e = is_unsure profiles unread p path e.kind e.target

-- the name behind the arrow of the rule of that number
abbrev pub target_in : List FileRule → Option ℕ → Option (List ℕ)
target_in rules number = option_and_then (λ (n : ℕ). option_and_then target_of (slice_get rules n)) number

-- an execution that no rule denies, by a way that leads it isn't known where
abbrev pub undecided_exec : List Profile → Unread → Profile → RequestedExec → Bool
undecided_exec profiles unread p r =
    not (has_exec (file_verdict p.files r.path r.owned).deny)
    && option_map_or (is_unsure_way profiles unread p r.path) (way_of (chosen p.files r.path r.owned)) false

-- a name that isn't `unconfined` is in doubt
abbrev pub is_doubtful_label : List Profile → Unread → List ℕ → Bool
is_doubtful_label profiles unread name = not (bytes_eq name (codes "unconfined")) && is_doubtful profiles unread name

-- a rule on changes, with deny or without, holds for the name
abbrev pub holds_with : Bool → List ℕ → ChangeRule → Bool
holds_with true name r = r.deny && change_holds name r
holds_with false name r = not r.deny && change_holds name r

-- the rules let the task change to the name, if it is found: none denies it, and one allows it where the profile isn't in complain mode
abbrev pub lets_change : Profile → List ℕ → Bool
lets_change p name = not (list_any (holds_with true name) p.changes) && (p.complain || list_any (holds_with false name) p.changes)

-- a task in a profile: its executions, and changes that its rules let through
abbrev pub undecided_in : List Profile → Unread → Profile → Request → Bool
undecided_in profiles unread p (Execute r) = undecided_exec profiles unread p r
undecided_in profiles unread p (Change name) = is_doubtful_label profiles unread name && lets_change p name
undecided_in profiles unread p _ = false

-- an unconfined task: whatever it executes is searched by attachment
abbrev pub undecided_free : List Profile → Unread → Request → Bool
undecided_free profiles unread (Execute r) = is_open profiles unread r.path
undecided_free profiles unread (Change name) = is_doubtful_label profiles unread name
undecided_free profiles unread _ = false

-- a task with that label; nothing is decided in a profile that wasn't read
unfoldable pub undecided : List Profile → Unread → Label → Request → Bool
undecided profiles unread (Free k) request = undecided_free profiles unread request
undecided profiles unread (Confined k n) request = option_map_or (λ (p : Profile). undecided_in profiles unread p request) (slice_get profiles n) true
