-- How programs are executed, with numbers for names.
use Rattle.std.specs.Prelude.{ℕ, List, map, Bool, false, Option, position}
use Rattle.std.specs.Option.{option_map, option_map_or, option_and_then}
use Rattle.std.specs.Str.{bytes_eq}
use Rattle.aa_model.specs.declared.rule.Exec.{Exec}
use Rattle.aa_model.specs.declared.rule.FileRule.{FileRule}
use Rattle.aa_compile.specs.declared.mark.Way.{Way}

-- whether the rule names that profile
abbrev pub names : List ℕ → FileRule → Bool
names name r = option_map_or (λ (t : List ℕ). bytes_eq t name) (option_and_then (λ (e : Exec). e.target) r.exec) false

-- a name stands for the first rule that has it
abbrev pub way_by : List FileRule → Exec → Way
way_by rules e = record {
  kind = e.kind;
  scrub = e.scrub;
  fallback = e.fallback;
  target = option_and_then (λ (t : List ℕ). position (names t) rules) e.target;
}

-- for each rule, how it says that a program is executed; `number` numbers the ways
abbrev pub numbered : (Exec → Way) → List FileRule → List (Option Way)
numbered number rules = map (λ r. option_map number r.exec) rules
