-- Labels at which profiles that weren't read could change what is answered.
-- Source: own.
use Rattle.std.specs.Prelude.{◌≡◌, List, [], map, Bool, true, false, not, ◌&&◌, ◌||◌, Option, Some, None, if◌then◌else◌}
use Rattle.std.specs.Option.{option_map_or}
use Rattle.std.specs.List.{list_any, slice_get}
use Rattle.aa_pattern.specs.declared.item.Item.{Byte}
use Rattle.aa_pattern.specs.declared.pattern.Pattern.{Pattern}
use Rattle.aa_model.specs.declared.rule.Exec.{Exec}
use Rattle.aa_model.specs.declared.rule.FileRule.{FileRule}
use Rattle.aa_model.specs.declared.rule.ChangeRule.{ChangeRule}
use Rattle.aa_model.specs.declared.policy.Profile.{Profile}
use Rattle.aa_model.specs.declared.label.Label.{Label}
use Rattle.aa_model.specs.declared.label.Label.TheVariants.{Unconfined, Confined}
use Rattle.aa_model.specs.declared.request.Request.{Request}
use Rattle.aa_compile.specs.FileRules.{is_nil}
use Rattle.aa_skipping.specs.declared.unread.Head.{Head}
use Rattle.aa_skipping.specs.declared.unread.Unread.{Unread}
use Rattle.aa_skipping.specs.Undecided.{is_unsure_way, undecided}
use Rattle.aa_quantifiers.specs.Doubts.{may_meet, may_attach, is_search}

-- a way to execute may lead it isn't known where, at some path of one of the patterns
abbrev pub may_lead : List Profile → Unread → Profile → List Pattern → Exec → Bool
may_lead profiles unread p patterns e =
    if is_search e.kind e.target then list_any (λ (q : Pattern). may_attach q unread) patterns else is_unsure_way profiles unread p [] e

-- a rule lets programs be executed, and may lead it isn't known where
abbrev pub is_open_rule : List Profile → Unread → Profile → FileRule → Bool
is_open_rule profiles unread p r = not r.deny && option_map_or (may_lead profiles unread p r.patterns) r.exec false

-- there may be some of these profiles
abbrev pub may_be_some : Unread → Bool
may_be_some unread = unread.others || not (is_nil unread.heads)

-- the pattern may match the name of a profile with that head, or of a child of it: no bytes at the fronts differ
abbrev pub may_match : Pattern → Head → Bool
may_match q h = may_meet q.items.items (map Byte h.name)

-- one of these profiles may have a name that the pattern matches; where there is no pattern, any
abbrev pub may_have_one : Unread → Option Pattern → Bool
may_have_one unread None = may_be_some unread
may_have_one unread (Some q) = unread.others || list_any (may_match q) unread.heads

-- a rule lets a task change to one of these profiles, as far as is known
abbrev pub is_open_change : Unread → ChangeRule → Bool
is_open_change unread r = not r.deny && may_have_one unread r.pattern

-- complain mode does, or one of the profile's rules; or a rule of it may lead executions there
abbrev pub is_open_in : List Profile → Unread → Profile → Bool
is_open_in profiles unread p =
    (p.complain && may_be_some unread) || (list_any (is_open_rule profiles unread p) p.files || list_any (is_open_change unread) p.changes)

-- profiles that weren't read could change what is answered at the label; unconfined tasks can change to each of them
unfoldable pub is_open_label : List Profile → Unread → Label → Bool
is_open_label profiles unread (Unconfined k) = may_be_some unread
is_open_label profiles unread (Confined k n) = option_map_or (is_open_in profiles unread) (slice_get profiles n) true

-- where they could not, no request is undecided there
abbrev pub ClosedLabels : Type 0
ClosedLabels = (profiles : List Profile) (unread : Unread) (label : Label) → is_open_label profiles unread label ≡ false
    → (r : Request) → undecided profiles unread label r ≡ false
