-- How many profiles and rules a policy has.
-- Source: own.
use Rattle.std.specs.Prelude.{ℕ, ◌==◌, List, [], ◌++◌, length, codes, decimal, if◌then◌else◌}
use Rattle.std.specs.List.{slice_get}
use Rattle.std.specs.Option.{option_map_or}
use Rattle.aa_model.specs.declared.policy.Policy.{Policy}

-- how many profiles there are
abbrev pub count_of : List Policy → ℕ
count_of policies = option_map_or (λ (p : Policy). length p.profiles) (slice_get policies 0) 0

-- how many rules of the policy decide nothing
abbrev pub passed_in : List Policy → ℕ
passed_in policies = option_map_or (λ (p : Policy). length p.passed_over) (slice_get policies 0) 0

-- how many rules decide nothing, where there are some
abbrev pub passed_text : ℕ → List ℕ
passed_text n = if n == 0 then [] else decimal n ++ codes " rules passed over\n"
