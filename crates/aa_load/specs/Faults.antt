-- Which policies can't be joined.
-- Source: own.
use Rattle.std.specs.Prelude.{ℕ, suc, Bool, ◌||◌, List, [], ◌∷◌, length, nat_lt, if◌then◌else◌, Option, Some, None, option_map}
use Rattle.std.specs.List.{list_any}
use Rattle.std.specs.Option.{option_or}
use Rattle.std.specs.Str.{bytes_eq}
use Rattle.aa_pattern.specs.Limits.{most_patterns}
use Rattle.aa_model.specs.declared.policy.Profile.{Profile}
use Rattle.aa_model.specs.Lawful.{attachment_patterns}
use Rattle.aa_load.specs.declared.join_fault.Repeated.{Repeated}
use Rattle.aa_load.specs.declared.join_fault.JoinFault.{JoinFault}
use Rattle.aa_load.specs.declared.join_fault.JoinFault.TheVariants.{DuplicateProfile, TooLarge}
use Rattle.aa_load.specs.Rows.{Rows}
use Rattle.aa_load.specs.Joined.{joined}

-- the number of the first profile of that name
abbrev pub number_of : List ℕ → List Profile → Option ℕ
number_of name [] = None
number_of name (p ∷ ps) = if bytes_eq name p.name then Some 0 else option_map suc (number_of name ps)

-- the first of some profiles has the name of the earlier one of that number
abbrev pub at_first : ℕ → Repeated
at_first n = record { earlier = n; later = 0 }

-- the same two, where one profile more stands before the later
abbrev pub one_later : Repeated → Repeated
one_later r = record r { later = suc r.later }

-- of these profiles the first whose name one of the earlier has, with the number of that one
abbrev pub repeated : List Profile → List Profile → Option Repeated
repeated earlier [] = None
repeated earlier (p ∷ ps) = option_or (option_map at_first (number_of p.name earlier)) (option_map one_later (repeated earlier ps))

-- more profiles than a policy may have, more attachment patterns than its top-level profiles may have,
-- or a rule that never decides of a profile whose number would be larger than numbers are
abbrev pub is_too_large : Rows → Bool
is_too_large rows =
    nat_lt 4096 (length rows.profiles) || nat_lt most_patterns (attachment_patterns None rows.profiles) || list_any (λ r. nat_lt 65535 r.profile) rows.passed_over

-- why the second can't be joined to the first: a name that is there, or else a limit that the two together pass
abbrev pub fault_of : Rows → Rows → Option JoinFault
fault_of first second = option_or
    (option_map DuplicateProfile (repeated first.profiles second.profiles))
    (if is_too_large (joined first second) then Some TooLarge else None)
