-- Names that profiles which weren't read may have.
-- Source: own.
use Rattle.std.specs.Prelude.{ℕ, List, [], ◌∷◌, length, drop, Bool, false, if◌then◌else◌, Option, Some, None, not, ◌&&◌, ◌||◌, is_some}
use Rattle.std.specs.Option.{option_map_or}
use Rattle.std.specs.Bool.{nat_eq}
use Rattle.std.specs.List.{list_any, starts_with}
use Rattle.aa_model.specs.declared.policy.Profile.{Profile}
use Rattle.aa_compile.specs.FileRules.{is_nil}
use Rattle.aa_compile.specs.Transitions.{named}
use Rattle.aa_skipping.specs.declared.unread.Head.{Head}
use Rattle.aa_skipping.specs.declared.unread.Unread.{Unread}

-- what stands behind a front, where the text begins so
abbrev pub behind : List ℕ → List ℕ → Option (List ℕ)
behind front text = if starts_with nat_eq text front then Some (drop (length front) text) else None

-- behind a profile's name stands nothing in its own full name, and two slashes in that of a child
abbrev pub is_end : List ℕ → Bool
is_end rest = is_nil rest || starts_with nat_eq rest (47 ∷ 47 ∷ [])

-- a full name is that of the profile, or of a child of it
abbrev pub is_of : List ℕ → List ℕ → Bool
is_of profile name = option_map_or is_end (behind profile name) false

-- a profile that wasn't read may have the name
abbrev pub may_be_unread : Unread → List ℕ → Bool
may_be_unread unread name = unread.others || list_any (λ (h : Head). is_of h.name name) unread.heads

-- and none that was read has it
abbrev pub is_doubtful : List Profile → Unread → List ℕ → Bool
is_doubtful profiles unread name = not (is_some (named profiles name)) && may_be_unread unread name
