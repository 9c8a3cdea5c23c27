-- Profiles of which it can't be told which rules are redundant.
-- Source: own.
use Rattle.std.specs.Prelude.{ℕ, List, [], ◌∷◌, ◌++◌, flat_map, codes, Option, Some, None, slice_get}
use Rattle.aa_base.specs.Values.{value}
use Rattle.aa_model.specs.declared.policy.Profile.{Profile}
use Rattle.aa_redundancy.specs.declared.fault.Excess.{Excess}
use Rattle.aa_redundancy.specs.declared.fault.Excess.TheVariants.{Patterns, States}
use Rattle.aa_redundancy.specs.declared.fault.UntoldProfile.{UntoldProfile}
use Rattle.aa_command.specs.Untold.{Untelling}

-- why it can't be told
abbrev pub why_of : Excess → List ℕ
why_of Patterns = codes "there are more than 65535 patterns"
why_of States = codes "its patterns need too many states together; --states allows more"

-- of which profile it can't be told, and why
unfoldable pub untold_text : List ℕ → List ℕ → List ℕ
untold_text name why = codes "of " ++ value name ++ codes " it can't be told which rules are redundant: " ++ why

-- a profile of which it can't be
abbrev pub untold_of : List ℕ → Excess → Untelling
untold_of name e = record { profile = name; text = untold_text name (why_of e) }

-- so where it is there
abbrev pub untold_if : Excess → Option Profile → List Untelling
untold_if e None = []
untold_if e (Some p) = untold_of p.name e ∷ []

-- the one of that number
abbrev pub untold_at : List Profile → UntoldProfile → List Untelling
untold_at ps u = untold_if u.why (slice_get ps u.number)

-- all of them
abbrev pub all_untold : List Profile → List UntoldProfile → List Untelling
all_untold ps us = flat_map (untold_at ps) us
