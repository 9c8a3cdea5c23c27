-- Which file rules of a profile a path meets, by their numbers.
-- Source: apparmor.d(5), "Globbing"; own.
use Rattle.std.specs.Prelude.{ℕ, suc, List, [], ◌∷◌, ◌++◌, map, if◌then◌else◌}
use Rattle.std.specs.Option.{option_map_or}
use Rattle.std.specs.List.{slice_get}
use Rattle.aa_pattern.specs.declared.pattern.Pattern.{Pattern}
use Rattle.aa_model.specs.declared.policy.Profile.{Profile}
use Rattle.aa_model.specs.declared.rule.FileRule.{FileRule}
use Rattle.aa_compile.specs.FileRules.{any_sort, some_match}

-- the numbers, from n on, of the rules of which some pattern matches the path
abbrev pub matching_from : List ℕ → ℕ → List FileRule → List ℕ
matching_from path n [] = []
matching_from path n (r ∷ rs) = if some_match any_sort path r.patterns then n ∷ matching_from path (suc n) rs else matching_from path (suc n) rs

-- the file rules of the profile with that number; none where there is no such profile
abbrev pub files_at : List Profile → ℕ → List FileRule
files_at profiles number = option_map_or (λ (p : Profile). p.files) (slice_get profiles number) []

-- the numbers of those of which some pattern matches the path
abbrev pub rules_matching : List Profile → ℕ → List ℕ → List ℕ
rules_matching profiles number path = matching_from path 0 (files_at profiles number)

-- of each pattern of rules that are numbered from n on, the number of its rule
abbrev pub owners_from : ℕ → List FileRule → List ℕ
owners_from n [] = []
owners_from n (r ∷ rs) = map (λ (p : Pattern). n) r.patterns ++ owners_from (suc n) rs
