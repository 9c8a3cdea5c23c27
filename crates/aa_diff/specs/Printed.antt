-- Findings as they are printed.
-- Source: own.
use Rattle.std.specs.Prelude.{ℕ, List, [], ◌∷◌, ◌++◌, ◌==◌, ◌&&◌, not, bit_and, Bool, true, false, codes, decimal, flat_map, Option, Some, None, if◌then◌else◌}
use Rattle.std.specs.List.{list_any}
use Rattle.aa_base.specs.Values.{value}
use Rattle.aa_model.specs.declared.policy.Policy.{Policy}
use Rattle.aa_model.specs.declared.label.Label.{Label}
use Rattle.aa_model.specs.declared.request.Request.{Request}
use Rattle.aa_model.specs.declared.request.Request.TheVariants.{File, Link, Exec, Change}
use Rattle.aa_base.specs.declared.perms.Perms.{Perms}
use Rattle.aa_compile.specs.Labels.{label_name}
use Rattle.aa_compile.specs.Said.{perms_of, minus}
use Rattle.aa_text.specs.Visible.{all_visible}
use Rattle.aa_rule_text.specs.RuleTexts.{shortened}
use Rattle.aa_notation.specs.Kinds.{word_text}
use Rattle.aa_passed_over.specs.declared.apart.Side.{Side}
use Rattle.aa_passed_over.specs.declared.apart.Side.TheVariants.{Old, New}
use Rattle.aa_passed_over.specs.Apart.{ApartRule}
use Rattle.aa_diff.specs.declared.signs.Sign.{Sign}
use Rattle.aa_diff.specs.declared.signs.Sign.TheVariants.{Gain, Loss, Other}
use Rattle.aa_diff.specs.declared.finding.Who.{Who}
use Rattle.aa_diff.specs.declared.finding.Who.TheVariants.{Owner, Others}
use Rattle.aa_diff.specs.declared.finding.Finding.{Finding}
use Rattle.aa_ask.specs.Told.{is_confined}
use Rattle.aa_diff.specs.Changes.{is_same}
use Rattle.aa_diff.specs.Findings.{is_profile}
use Rattle.aa_diff.specs.Lines.{Told, Found, PassedOver, label_of, is_of_profile}

-- the permission to write, alone
abbrev pub only_write : ℕ
only_write = 2

-- the permission to append, alone
abbrev pub only_append : ℕ
only_append = 4

-- the task's user's objects
abbrev pub is_owner : Who → Bool
is_owner Owner = true
is_owner _ = false

-- the permissions that a line shows: what writes may append too, as in a rule
abbrev pub shown_letters : Perms → Perms
shown_letters p = if bit_and p.0 only_write == 0 then p else perms_of (minus p.0 only_append)

-- a request by these permissions, for an object of the task's user or of another
abbrev pub asked_by : Perms → Bool → Request → Request
asked_by letters owned (File r) = File (record { path = r.path; mask = letters; owned = owned })
asked_by letters owned (Link r) = Link (record { link = r.link; target = r.target; owned = owned })
asked_by letters owned (Exec r) = Exec (record { path = r.path; owned = owned })
asked_by letters owned r = r

-- the first request of a finding, by all its permissions as they are shown
abbrev pub asked_of : Finding → Request
asked_of f = asked_by (shown_letters f.letters) (is_owner f.who) f.request

-- before the word of an object that is others' alone
abbrev pub others_text : Who → List ℕ
others_text Others = codes "other:"
others_text _ = []

-- its word: behind `owned:` or `other:` where it holds of the task's user's objects alone, or of those of others alone
abbrev pub asked_text : Finding → List ℕ
asked_text f = others_text f.who ++ word_text (asked_of f)

-- the sign at the head of a line
abbrev pub sign_text : Sign → List ℕ
sign_text Gain = codes "+"
sign_text Loss = codes "-"
sign_text Other = codes "~"

-- how many there are besides
abbrev pub more_text : ℕ → List ℕ
more_text n = if n == 0 then [] else codes ", and " ++ decimal n ++ codes " more"

-- a line is about unclean paths alone
abbrev pub only_text : Bool → List ℕ
only_text unclean = if unclean then codes "only at unclean paths " else []

-- the sign of a line, that it is about unclean paths alone, and the request
unfoldable pub asked_part : Finding → List ℕ
asked_part f = sign_text f.sign ++ codes " " ++ only_text f.unclean ++ asked_text f

-- how it was answered and is, and how many there are besides
unfoldable pub change_part : Finding → List ℕ
change_part f = codes " " ++ f.change ++ more_text f.more

-- both
abbrev pub finding_part : Finding → List ℕ
finding_part f = asked_part f ++ change_part f

-- the begin of its line
unfoldable pub line_start : Finding → List ℕ
line_start f = codes "  " ++ finding_part f

-- the end of its line, and the lines of the rules
unfoldable pub line_end : Finding → List ℕ
line_end f = codes "\n" ++ f.rules

-- the line of a finding, and those of its rules
abbrev pub line_text : Finding → List ℕ
line_text f = line_start f ++ line_end f

-- what became of a profile
abbrev pub gone_text : Sign → List ℕ
gone_text Gain = codes " is new, and with it "
gone_text Loss = codes " is gone, and with it "
gone_text Other = codes " is another, and with it "

-- the name that a request to change to it asks for
abbrev pub name_asked : Request → List ℕ
name_asked (Change name) = name
name_asked _ = []

-- what is said of a profile that is gone or new
unfoldable pub profile_part : Finding → List ℕ
profile_part f = codes "profile " ++ value (name_asked f.request) ++ gone_text f.sign ++ word_text f.request

-- its line
abbrev pub profile_text : Finding → List ℕ
profile_text f = profile_part f ++ codes "\n"

-- the same, if it is one
abbrev pub profile_if : Finding → List ℕ
profile_if f = if is_profile f then profile_text f else []

-- it is about what else unconfined tasks are answered
abbrev pub is_free : Finding → Bool
is_free f = not (is_confined f.from) && not (is_profile f)

-- its line, if it is
abbrev pub free_if : Finding → List ℕ
free_if f = if is_free f then line_text f else []

-- the lines of unconfined tasks behind their heading, if there are any
abbrev pub free_text : List Finding → List ℕ
free_text fs = if list_any is_free fs then codes "unconfined\n" ++ flat_map free_if fs else []

-- a label is that of the line before
abbrev pub is_behind : Option Label → Label → Bool
is_behind None l = false
is_behind (Some m) l = is_same m l

-- the heading of a profile, where the line before is of another
abbrev pub heading : List Policy → Option Label → Label → List ℕ
heading ps before l = if is_behind before l then [] else codes "profile " ++ value (label_name ps l) ++ codes "\n"

-- the policy that alone has a rule
abbrev pub side_text : Side → List ℕ
side_text Old = codes "OLD"
side_text New = codes "NEW"

-- a rule that is passed over, and which policy alone has it
unfoldable pub rule_part : ApartRule → List ℕ
rule_part r = codes "? " ++ all_visible (shortened r.rule.text) ++ codes " only in " ++ side_text r.side

-- its line
unfoldable pub passed_over_text : ApartRule → List ℕ
passed_over_text r = codes "  " ++ rule_part r ++ codes "\n"

-- a line about a profile
abbrev pub told_text : Told → List ℕ
told_text (Found f) = line_text f
told_text (PassedOver r) = passed_over_text r

-- the lines about profiles, each profile's behind its heading
abbrev pub confined_text : List Policy → Option Label → List Told → List ℕ
confined_text ps before [] = []
confined_text ps before (l ∷ ls) =
    if is_of_profile l then heading ps before (label_of l) ++ told_text l ++ confined_text ps (Some (label_of l)) ls else confined_text ps before ls
