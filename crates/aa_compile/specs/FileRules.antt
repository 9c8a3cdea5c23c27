-- What the file rules of a profile say of an object: a path, and whether the task's user owns it.
-- Source: apparmor.d(5), "Globbing", "Qualifiers", "Access Modes"; own.
use Rattle.std.specs.Prelude.{◌≡◌, ◌≢◌, ℕ, List, [], ◌∷◌, Bool, true, false, not, ◌&&◌, ◌||◌, if◌then◌else◌, filter, map, Option, Some, None, is_some, Contains, IsTrue}
use Rattle.std.specs.Option.{option_and_then}
use Rattle.std.specs.List.{list_any}
use Rattle.aa_pattern.specs.declared.pattern.Pattern.{Pattern}
use Rattle.aa_model.specs.declared.rule.Exec.{Exec}
use Rattle.aa_model.specs.declared.rule.FileRule.{FileRule}
use Rattle.aa_pattern.specs.Matching.{is_match}
use Rattle.aa_compile.specs.declared.sets.RuleSets.{RuleSets}
use Rattle.aa_compile.specs.Patterns.{is_literal}
use Rattle.aa_compile.specs.Said.{Saying, verdict}

-- some pattern of that sort matches the path
abbrev pub some_match : (Pattern → Bool) → List ℕ → List Pattern → Bool
some_match sort path patterns = list_any (λ p. sort p && is_match p.items.items path) patterns

-- any pattern
abbrev pub any_sort : Pattern → Bool
any_sort p = true

-- a rule applies by its patterns of that sort, an owner rule to owned objects alone
abbrev pub applies_by : (Pattern → Bool) → List ℕ → Bool → FileRule → Bool
applies_by sort path owned rule = (owned || not rule.owner) && some_match sort path rule.patterns

-- what a rule says, and how
abbrev pub saying : FileRule → Saying
saying r = record { audit = r.audit; deny = r.deny; bits = r.perms.0 }

-- what the rules that apply say
abbrev pub file_verdict : List FileRule → List ℕ → Bool → RuleSets
file_verdict rules path owned = verdict (map saying (filter (applies_by any_sort path owned) rules))

-- a rule that says how a program may be executed
abbrev pub says_how : FileRule → Bool
says_how r = not r.deny && is_some r.exec

-- the rules that say how, and apply by patterns of that sort
abbrev pub ways_by : (Pattern → Bool) → List FileRule → List ℕ → Bool → List FileRule
ways_by sort rules path owned = filter (λ r. says_how r && applies_by sort path owned r) rules

-- the list is empty
abbrev pub is_nil : {X : Type 0} → List X → Bool
is_nil [] = true
is_nil (x ∷ xs) = false

-- those that match by a literal pattern, or else all
abbrev pub chosen : List FileRule → List ℕ → Bool → List FileRule
chosen rules path owned =
    if is_nil (ways_by is_literal rules path owned) then ways_by any_sort rules path owned else ways_by is_literal rules path owned

-- the first of a list
abbrev pub first : {X : Type 0} → List X → Option X
first [] = None
first (x ∷ xs) = Some x

-- how the first of them says that the program is executed
abbrev pub way_of : List FileRule → Option Exec
way_of rules = option_and_then (λ (r : FileRule). r.exec) (first rules)

-- a rule and one of its patterns
pub record Hit : Type 0 where
  pub rule : FileRule
  pub pattern : Pattern

-- neither denies, and they say differently how a program is executed
pub record SayDifferently (a b : FileRule) : Type 0 where
  pub allow : (a.deny ≡ false) × (b.deny ≡ false)
  pub one : Exec
  pub other : Exec
  pub say : (a.exec ≡ Some one) × (b.exec ≡ Some other)
  pub differ : one ≢ other

-- two rules say differently how one text is executed, both by literal patterns or both by others
pub record IsConflict (rules : List FileRule) (a b : Hit) (text : List ℕ) : Type 0 where
  pub rules_are : Contains rules a.rule × Contains rules b.rule
  pub patterns_are : Contains a.rule.patterns a.pattern × Contains b.rule.patterns b.pattern
  pub match : IsTrue (is_match a.pattern.items.items text) × IsTrue (is_match b.pattern.items.items text)
  pub sort : is_literal a.pattern ≡ is_literal b.pattern
  pub say : SayDifferently a.rule b.rule

-- two rules of these conflict at some text
abbrev pub Conflicts : List FileRule → Type 0
Conflicts rules = (a : Hit) × (b : Hit) × (text : List ℕ) × IsConflict rules a b text
