-- The rules of a list that speak of an object, by their numbers: the others have no part in an answer.
use Rattle.std.specs.Prelude.{ℕ, ◌+◌, List, [], ◌∷◌, ◌++◌, map, Bool, true, false, Option, Some, None, option_to_list, if◌then◌else◌}
use Rattle.std.specs.Option.{option_and_then}
use Rattle.std.specs.List.{slice_get, filter_map, cons_option}
use Rattle.aa_base.specs.Permissions.{only_exec}
use Rattle.aa_model.specs.declared.rule.FileRule.{FileRule}
use Rattle.aa_compile.specs.Said.{minus}
use Rattle.aa_compile.specs.FileRules.{is_nil}
use Rattle.aa_explain.specs.declared.deciders.Decider.{Decider}
use Rattle.aa_explain.specs.declared.deciders.Listed.{Listed}
use Rattle.aa_explain.specs.declared.deciders.Listed.TheVariants.{Files}
use Rattle.aa_explain.specs.declared.told.Saying.{Saying}
use Rattle.aa_explain.specs.declared.told.Told.{Told}
use Rattle.aa_explain.specs.Deciders.{part_of, decider_if, unnamed, Reasons}

-- what a rule says, with its number, if it speaks of the object
abbrev pub told_if : ℕ → Saying → Option Told
told_if n s = if s.holds then Some (record { rule = n; saying = s }) else None

-- the rules that speak of it, of a list that is numbered from n on
abbrev pub speaking_from : ℕ → List Saying → List Told
speaking_from n [] = []
speaking_from n (s ∷ ss) = cons_option (told_if n s) (speaking_from (n + 1) ss)

-- the file rule with that number, if there is one and it speaks of the object
abbrev pub told_at : (FileRule → Saying) → List FileRule → ℕ → Option Told
told_at says rules n = option_and_then (λ (r : FileRule). told_if n (says r)) (slice_get rules n)

-- what they say, without the numbers
abbrev pub sayings_of : List Told → List Saying
sayings_of ts = map (λ (t : Told). t.saying) ts

-- a rule with that verdict that names some of what is asked
abbrev pub named_by : Bool → ℕ → Told → Option Decider
named_by deny asked t = decider_if t.rule (part_of deny t.saying asked)

-- each rule that allows some of what no rule before it allows, with what is new
unfoldable pub first_told : ℕ → List Told → List Decider
first_told asked [] = []
first_told asked (t ∷ ts) = option_to_list (named_by false asked t) ++ first_told (minus asked (part_of false t.saying asked)) ts

-- the reason that these rules give for what is asked
abbrev pub reasons_told : Listed → List Told → ℕ → Reasons
reasons_told listed ts asked = record {
  listed = listed;
  denies = filter_map (named_by true asked) ts;
  allows = first_told (unnamed true asked (sayings_of ts)) ts;
  lacking = unnamed false (unnamed true asked (sayings_of ts)) (sayings_of ts);
}

-- the reason that they give for an execution
unfoldable pub exec_reasons_told : List Told → Reasons
exec_reasons_told ts = record {
  listed = Files;
  denies = filter_map (named_by true only_exec) ts;
  allows = if is_nil (filter_map (named_by true only_exec) ts) then filter_map (named_by false only_exec) ts else [];
  lacking = if is_nil (filter_map (named_by true only_exec) ts) then unnamed false only_exec (sayings_of ts) else 0;
}
