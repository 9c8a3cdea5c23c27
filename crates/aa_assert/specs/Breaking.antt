-- Claims that nothing can break: whatever rules, attachments and flags the profiles have, nobody answers against them.
-- Source: own.
use Rattle.std.specs.Prelude.{◌≡◌, ℕ, ◌&&◌, ◌||◌, not, List, codes, Bool, true, false, Option, Some, None, is_some, if◌then◌else◌}
use Rattle.std.specs.Option.{option_map_or}
use Rattle.std.specs.List.{list_any}
use Rattle.std.specs.Str.{bytes_eq}
use Rattle.aa_model.specs.declared.policy.Profile.{Profile}
use Rattle.aa_model.specs.declared.request.Request.{Request}
use Rattle.aa_model.specs.declared.request.Request.TheVariants.{Change, Reload}
use Rattle.aa_compile.specs.Labels.{first_profiles, label_named}
use Rattle.aa_skipping.specs.Names.{may_be_unread}
use Rattle.aa_skipped.specs.declared.skipped.Skipped.{Skipped}
use Rattle.aa_quantifiers.specs.declared.word.Word.{Word}
use Rattle.aa_quantifiers.specs.declared.word.Word.TheVariants.{Files, Execs, One}
use Rattle.aa_claims.specs.declared.words.ClaimWord.{ClaimWord}
use Rattle.aa_claims.specs.declared.fault.Wrong.{Wrong}
use Rattle.aa_claims.specs.declared.fault.Wrong.TheVariants.{NoChange, Elsewhere, Granted, There}
use Rattle.aa_claims.specs.Forms.{names_led}
use Rattle.aa_assert.specs.declared.part.Part.{Part}
use Rattle.aa_assert.specs.declared.asked.Asked.{Asked}
use Rattle.aa_assert.specs.declared.asked.Asked.TheVariants.{Never, Leads, Always, Reaches, Enforced}
use Rattle.aa_assert.specs.Leading.{is_named_in}
use Rattle.aa_assert.specs.Scope.{is_among, is_about, is_about_free, is_about_profile, names_free, may_have, may_concern}

-- a label that is read has the name: unconfined, or that of a profile
abbrev pub is_there : Part → List ℕ → Bool
is_there d name = is_some (label_named d.decided.policies.now 0 name)

-- or a profile of a skipped file may have it
abbrev pub may_be_there : Part → List ℕ → Bool
may_be_there d name = is_there d name || list_any (λ (k : Skipped). may_be_unread k.unread name) d.skipped.now

-- `to` or `reach` names the label of that name
abbrev pub is_led : List ClaimWord → List ℕ → Bool
is_led ws name = if bytes_eq name (codes "unconfined") then names_free (names_led ws) else is_among false (names_led ws) name

-- one of its words may name a profile of a skipped file
abbrev pub may_lead_past : Part → List ClaimWord → Bool
may_lead_past d ws = option_map_or (λ (names : List ClaimWord). list_any (λ (w : ClaimWord). list_any (may_have w) d.skipped.now) names) (names_led ws) false

-- it names the profile, which is no child: a task without a profile is led there by an attachment
abbrev pub is_top_led : List ClaimWord → Profile → Bool
is_top_led ws p = not (is_some p.parent) && is_named_in (names_led ws) p

-- an execution may lead somebody whom the claim is about to a label that it names: a task in a profile to any, another one to no child
abbrev pub may_execute_there : Part → List ClaimWord → Bool
may_execute_there d ws =
    is_about_profile d ws || (names_free (names_led ws)
    || (list_any (is_top_led ws) (first_profiles d.decided.policies.now) || may_lead_past d ws))

-- the claim is about a profile of another name
abbrev pub is_about_another : List ClaimWord → List Profile → List ℕ → Bool
is_about_another ws ps name = list_any (λ (q : Profile). is_about ws q.name && not (bytes_eq q.name name)) ps

-- it names the profile, and is about somebody else
abbrev pub is_led_from_another : List ClaimWord → List Profile → Profile → Bool
is_led_from_another ws ps p = is_named_in (names_led ws) p && (is_about_free ws || is_about_another ws ps p.name)

-- somebody whom it is about isn't at the one label that it names
abbrev pub is_apart_in : List ClaimWord → List Profile → Bool
is_apart_in ws ps = (names_free (names_led ws) && list_any (λ (p : Profile). is_about ws p.name) ps) || list_any (is_led_from_another ws ps) ps

-- so it may be, by profiles that are read or by one of a skipped file
abbrev pub may_be_apart : Part → List ClaimWord → Bool
may_be_apart d ws =
    is_apart_in ws (first_profiles d.decided.policies.now) || (list_any (may_concern ws) d.skipped.now || may_lead_past d ws)

-- tasks without a profile may be refused it: it is a change to a name that no label has, or to be decided by a policy that may not be there
abbrev pub is_refused_free : Part → Word → Bool
is_refused_free d (One (Change name)) = not (is_there d name)
is_refused_free d (One (Reload m)) = true
is_refused_free d _ = false

-- that none is granted: no change is to a name that nobody has
abbrev pub never_wrong : Part → Word → Option Wrong
never_wrong d (One (Change name)) = if may_be_there d name then None else Some NoChange
never_wrong d _ = None

-- that a change doesn't lead there: it leads to the label of its name alone
abbrev pub change_wrong : Part → List ClaimWord → List ℕ → Option Wrong
change_wrong d ws name = if not (may_be_there d name) then Some NoChange else (if is_led ws name then None else Some Elsewhere)

-- that executions don't
abbrev pub execs_wrong : Part → List ClaimWord → Option Wrong
execs_wrong d ws = if may_execute_there d ws then None else Some Elsewhere

-- that none of a word's requests leads there
abbrev pub leads_wrong : Part → List ClaimWord → Word → Option Wrong
leads_wrong d ws (One (Change name)) = change_wrong d ws name
leads_wrong d ws (Execs w) = execs_wrong d ws
leads_wrong d ws _ = None

-- that each is granted: tasks without a profile are granted all, but for changes to names that nobody has
abbrev pub always_wrong : Part → List ClaimWord → Word → Option Wrong
always_wrong d ws w = if is_about_profile d ws || is_refused_free d w then None else Some Granted

-- that a task doesn't come there
abbrev pub reach_wrong : Part → List ClaimWord → Option Wrong
reach_wrong d ws = if may_be_apart d ws then None else Some There

-- why nothing can break a claim of these words, which says this
abbrev pub unbreakable : Part → List ClaimWord → Asked → Option Wrong
unbreakable d ws (Never w) = never_wrong d w
unbreakable d ws (Leads w ls) = leads_wrong d ws w
unbreakable d ws (Always w) = always_wrong d ws w
unbreakable d ws (Reaches ls) = reach_wrong d ws
unbreakable d ws Enforced = None

-- why nothing can break it, at the word that says what is claimed
abbrev pub IsUnbreakable : Part → List ClaimWord → ClaimWord → Asked → ℕ → Wrong → Type 0
IsUnbreakable d ws asked says at fault = (at ≡ asked.at) × (unbreakable d ws says ≡ Some fault)
