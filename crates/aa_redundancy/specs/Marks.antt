-- What rules say, beside the patterns by which they say it.
-- Source: own.
use Rattle.std.specs.Prelude.{ℕ, suc, List, [], ◌∷◌, ◌++◌, map, Bool, true, false, not, ◌&&◌, ◌||◌, if◌then◌else◌, Option, None, is_some, option_map}
use Rattle.aa_pattern.specs.declared.pattern.Pattern.{Pattern}
use Rattle.aa_model.specs.declared.rule.Exec.{Exec}
use Rattle.aa_model.specs.declared.rule.FileRule.{FileRule}
use Rattle.aa_model.specs.Lawful.{has_exec}
use Rattle.aa_compile.specs.declared.mark.Way.{Way}
use Rattle.aa_compile.specs.declared.side.Chosen.{Chosen}
use Rattle.aa_compile.specs.declared.sets.RuleSets.{RuleSets}
use Rattle.aa_compile.specs.Gathered.{gather}
use Rattle.aa_compile.specs.Marks.{mark_by}
use Rattle.aa_compile.specs.Said.{perms_of, both, nothing}
use Rattle.aa_compile.specs.Sides.{no_choice, earlier, mark_says}
use Rattle.aa_redundancy.specs.declared.marks.RuleMark.{RuleMark}
use Rattle.aa_redundancy.specs.declared.saying.Saying.{Saying}
use Rattle.aa_redundancy.specs.Rights.{rights}

-- what is kept of rule k beside one of its patterns, by how it says to execute
abbrev pub mark_with : ℕ → FileRule → Option Way → Pattern → RuleMark
mark_with k r way p = record { rule = k; mark = mark_by r way p }

-- the same with a number for how
abbrev pub rule_mark : (Exec → Way) → ℕ → FileRule → Pattern → RuleMark
rule_mark number k r p = mark_with k r (option_map number r.exec) p

-- a mark for each pattern of each rule, by numbers of rules from k on
abbrev pub marks_from : (Exec → Way) → ℕ → List FileRule → List RuleMark
marks_from number k [] = []
marks_from number k (r ∷ rs) = map (rule_mark number k r) r.patterns ++ marks_from number (suc k) rs

-- the mark of rule k, which isn't about files
abbrev pub plain_mark : ℕ → Bool → Bool → RuleMark
plain_mark k audit deny = record { rule = k; mark = record { audit = audit; deny = deny; owner = false; perms = perms_of 1; way = None; literal = false } }

-- what a mark says of the owner or of others, where its rule isn't gone
abbrev pub sets_of : (ℕ → Bool) → Bool → RuleMark → RuleSets
sets_of gone owned m = if owned || not m.mark.owner then (if not (gone m.rule) then mark_says m.mark else nothing) else nothing

-- the mark is one of a literal pattern, where such ones are wanted
abbrev pub is_sort : Bool → RuleMark → Bool
is_sort literal m = if literal then m.mark.literal else true

-- how it says to execute
abbrev pub choice_of : (ℕ → Bool) → Bool → Bool → RuleMark → Chosen
choice_of gone literal owned m =
    if is_sort literal m then
    (if owned || not m.mark.owner then
    (if not m.mark.deny && is_some m.mark.way then
    (if not (gone m.rule) then record { way = m.mark.way; audited = m.mark.audit } else no_choice)
    else no_choice)
    else no_choice)
    else no_choice

-- what marks say together
abbrev pub sets_by : (ℕ → Bool) → Bool → List RuleMark → RuleSets
sets_by gone owned ms = gather both nothing (sets_of gone owned) ms

-- the first way, by marks of one sort
abbrev pub choice_by : (ℕ → Bool) → Bool → Bool → List RuleMark → Chosen
choice_by gone literal owned ms = gather earlier no_choice (choice_of gone literal owned) ms

-- the first choice that says how, of two
abbrev pub choose : Chosen → Chosen → Chosen
choose literal any = if is_some literal.way then literal else any

-- by the literal ones, or else by all
abbrev pub chosen_by : (ℕ → Bool) → Bool → List RuleMark → Chosen
chosen_by gone owned ms = choose (choice_by gone true owned ms) (choice_by gone false owned ms)

-- it isn't executed where that is denied
abbrev pub led : Bool → Chosen → Chosen
led denied chosen = if denied then no_choice else chosen

-- what marks say together, as replies look at it
abbrev pub said_by : (ℕ → Bool) → Bool → List RuleMark → Saying
said_by gone owned ms = record { rights = rights (sets_by gone owned ms); chosen = led (has_exec (sets_by gone owned ms).deny) (chosen_by gone owned ms) }
