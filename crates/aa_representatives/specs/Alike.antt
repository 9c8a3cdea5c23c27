-- Requests that differ in their paths or names alone, and the patterns that their replies look at.
-- Source: own.
use Rattle.std.specs.Prelude.{◌≡◌, ℕ, List, [], ◌∷◌, ◌++◌, Bool, Option, Some, None, Contains}
use Rattle.std.specs.List.{slice_get, flat_map}
use Rattle.aa_pattern.specs.declared.pattern.Pattern.{Pattern}
use Rattle.aa_pattern.specs.Matching.{is_match}
use Rattle.aa_base.specs.declared.perms.Perms.{Perms}
use Rattle.aa_model.specs.declared.policy.Policy.{Policy}
use Rattle.aa_model.specs.declared.policy.Profile.{Profile}
use Rattle.aa_model.specs.declared.rule.ChangeRule.{ChangeRule}
use Rattle.aa_compile.specs.Rows.{patterns_of}
use Rattle.aa_compile.specs.Checks.{attached_patterns}
use Rattle.aa_compile.specs.Transitions.{tops, children}
use Rattle.aa_model.specs.declared.label.Label.{Label}
use Rattle.aa_model.specs.declared.label.Label.TheVariants.{Unconfined, Confined}
use Rattle.aa_model.specs.declared.request.Request.TheVariants.{File, Link, Exec, Change}
use Rattle.aa_compile.specs.Labels.{policy_number, profile_in, label_named}
use Rattle.aa_mediate.specs.Reply.{reply}

-- each of the patterns matches both texts or neither
abbrev pub MatchAlike : List Pattern → List ℕ → List ℕ → Type 0
MatchAlike ps s u = (p : Pattern) → Contains ps p → is_match p.items.items s ≡ is_match p.items.items u

-- the patterns by which paths are answered in profile n: of its file rules, of the attachments of the top-level profiles, and of its children's
abbrev pub deciding_at : List Profile → ℕ → Option Profile → List Pattern
deciding_at profiles n (Some p) = patterns_of p.files ++ attached_patterns profiles (tops profiles) ++ attached_patterns profiles (children profiles n)
deciding_at profiles n None = []

-- those of a task without a profile: of the attachments of the top-level profiles
abbrev pub deciding_by : Label → Option Policy → List Pattern
deciding_by (Unconfined k) (Some policy) = attached_patterns policy.profiles (tops policy.profiles)
deciding_by (Confined k n) (Some policy) = deciding_at policy.profiles n (slice_get policy.profiles n)
deciding_by label None = []

-- those at a label, by the policy that the label names
abbrev pub deciding : List Policy → Label → List Pattern
deciding policies label = deciding_by label (slice_get policies (policy_number label))

-- the patterns of the file rules of a profile, if there is one
abbrev pub filing_at : Option Profile → List Pattern
filing_at (Some p) = patterns_of p.files
filing_at None = []

-- the patterns by which requests to use files are answered at a label; a task without a profile may use all
abbrev pub filing : List Policy → Label → List Pattern
filing policies (Confined k n) = filing_at (profile_in policies k n)
filing policies (Unconfined k) = []

-- the pattern, if there is one
abbrev pub patterns_in : Option Pattern → List Pattern
patterns_in (Some p) = p ∷ []
patterns_in None = []

-- the patterns of rules on changes of the profile
abbrev pub change_patterns : List ChangeRule → List Pattern
change_patterns rules = flat_map (λ (r : ChangeRule). patterns_in r.pattern) rules

-- of the rules of a profile, if there is one
abbrev pub changing_at : Option Profile → List Pattern
changing_at (Some p) = change_patterns p.changes
changing_at None = []

-- a task without a profile may change to each label that is there
abbrev pub changing_by : Label → Option Policy → List Pattern
changing_by (Unconfined k) (Some policy) = []
changing_by (Confined k n) (Some policy) = changing_at (slice_get policy.profiles n)
changing_by label None = []

-- the patterns by which the names of changes are answered at a label
abbrev pub changing : List Policy → Label → List Pattern
changing policies label = changing_by label (slice_get policies (policy_number label))

-- files at the two paths get the same reply, whatever is asked for
abbrev pub FilesAlike : List Policy → Label → List ℕ → List ℕ → Type 0
FilesAlike policies label s u =
    (mask : Perms) (owned : Bool) → reply policies label (File (record { path = s; mask = mask; owned = owned })) ≡ reply policies label (File (record { path = u; mask = mask; owned = owned }))

-- executions of the two paths get the same reply, and so lead to the same label
abbrev pub ExecsAlike : List Policy → Label → List ℕ → List ℕ → Type 0
ExecsAlike policies label s u =
    (owned : Bool) → reply policies label (Exec (record { path = s; owned = owned })) ≡ reply policies label (Exec (record { path = u; owned = owned }))

-- a link at s to v and one at u to w get the same reply
abbrev pub LinksAlike : List Policy → Label → List ℕ → List ℕ → List ℕ → List ℕ → Type 0
LinksAlike policies label s u v w =
    (owned : Bool) → reply policies label (Link (record { link = s; target = v; owned = owned })) ≡ reply policies label (Link (record { link = u; target = w; owned = owned }))

-- changes to the two names get the same reply
abbrev pub ChangesAlike : List Policy → Label → List ℕ → List ℕ → Type 0
ChangesAlike policies label s u = reply policies label (Change s) ≡ reply policies label (Change u)

-- the two names name one label, or none, in the policy that decides at a label
abbrev pub NameAlike : List Policy → Label → List ℕ → List ℕ → Type 0
NameAlike policies label s u = label_named policies (policy_number label) s ≡ label_named policies (policy_number label) u
