-- What the heads of a unit tell of its profiles.
-- Source: own.
use Rattle.std.specs.Prelude.{◌≡◌, List, [], map, true, false}
use Rattle.aa_words.specs.Splits.{WordData}
use Rattle.aa_model.specs.declared.policy.Profile.{Profile}
use Rattle.aa_model.specs.declared.policy.Policy.{Policy}
use Rattle.aa_policy.specs.Spelling.{Spells}
use Rattle.aa_files.specs.declared.unit.Unit as unit
use Rattle.aa_diagnostics.specs.Further.{HasWords}
use Rattle.aa_skipping.specs.declared.unread.Head.{Head}
use Rattle.aa_skipping.specs.declared.unread.Unread.{Unread}
use Rattle.aa_skipped.specs.Bodies.{without_bodies}
use Rattle.aa_skipped.specs.Flags.{without_flags}

-- the words outside of bodies, without flags: assignments, and heads with empty bodies
abbrev pub outline : List WordData → List WordData
outline ws = without_flags false (without_bodies 0 ws)

-- the head of a profile
abbrev pub head_of : Profile → Head
head_of p = record { name = p.name; attachments = p.attachments }

-- nothing is known: there may be any profiles
abbrev pub nothing_known : Unread
nothing_known = record { heads = []; others = true }

-- there are profiles with these heads, and no others
abbrev pub known_by : List Profile → Unread
known_by profiles = record { heads = map head_of profiles; others = false }

-- no words of the unit have an outline that spells a policy
abbrev pub HasNoOutline : unit.Unit → Type 0
HasNoOutline u = (ws : List WordData) (policy : Policy) → HasWords u ws → Spells (outline ws) policy → ⊥

-- what is known of the profiles of a unit: the heads that the outline of its words spells, or nothing where it spells none
pub data AreHeadsOf (u : unit.Unit) (r : Unread) : Type 0 where
  Known : (ws : List WordData) (policy : Policy) → HasWords u ws → Spells (outline ws) policy → r ≡ known_by policy.profiles → AreHeadsOf u r
  Unknown : HasNoOutline u → r ≡ nothing_known → AreHeadsOf u r
