-- The policy of a unit, and why it has none.
-- Source: own.
use Rattle.std.specs.Prelude.{ℕ, ◌≡◌, List, [], ◌∷◌, max, min}
use Rattle.aa_model.specs.Limits.{most_states}
use Rattle.aa_base.specs.declared.fault.PolicyFault.{PolicyFault}
use Rattle.aa_model.specs.declared.policy.Policy.{Policy}
use Rattle.aa_policies.specs.Policies.{Source, CanFollow, IsRefusedBehind, IsPolicyOf, IsFaultOfSources, IsFaultOfText}
use Rattle.aa_files.specs.declared.unit.Unit as unit
use Rattle.aa_files.specs.Numbers.{named_texts}

-- how many states an automaton may have: 1 to 1,000,000
abbrev pub limit_of : ℕ → ℕ
limit_of states = min (max states 1) most_states

-- the names and texts of a unit's sources, as they are numbered
abbrev pub texts_of : unit.Unit → List Source
texts_of u = named_texts u.order.items u.sources.items

-- of some sources, which are none or one, the one can't be added behind those before it
abbrev pub IsRefusedOf : List Source → List Source → PolicyFault → Type 0
IsRefusedOf earlier found e = (source : Source) × (found ≡ source ∷ []) × IsRefusedBehind earlier source e

-- the unit's text with its sources is that policy, which compiles
abbrev pub IsPolicyOfUnit : ℕ → unit.Unit → Policy → Type 0
IsPolicyOfUnit limit u policy = IsPolicyOf (texts_of u) limit u.text.items policy

-- why it is no policy that compiles: its sources can't be handed in, or they can and its text spells none
pub data IsFaultOfUnit (limit : ℕ) (u : unit.Unit) (e : PolicyFault) : Type 0 where
  OfSources : IsFaultOfSources (texts_of u) e → IsFaultOfUnit limit u e
  OfText : CanFollow [] (texts_of u) → IsFaultOfText (texts_of u) limit u.text.items e → IsFaultOfUnit limit u e
