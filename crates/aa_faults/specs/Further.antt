-- The faults of a unit behind its first.
-- Source: own.
use Rattle.std.specs.Prelude.{ℕ, suc, ◌≡◌, List, [], ◌∷◌, true, false, Option, Some, None}
use Rattle.aa_base.specs.declared.fault.PolicyFault.{PolicyFault}
use Rattle.aa_model.specs.declared.policy.Policy.{Policy}
use Rattle.aa_files.specs.declared.unit.Unit as unit
use Rattle.aa_text.specs.declared.fault.FaultReport.{FaultReport}
use Rattle.aa_load.specs.UnitPolicy.{limit_of, IsPolicyOfUnit, IsFaultOfUnit}
use Rattle.aa_diagnostics.specs.Reports.{has_place, IsDescribed}
use Rattle.aa_faults.specs.declared.extent.Extent.{Extent}
use Rattle.aa_faults.specs.Extents.{IsExtentAt}
use Rattle.aa_faults.specs.Blanks.{IsBlanked}

-- the bytes of the rule or assignment at fault; none where the fault is said of a whole text, or stands in none
pub data IsRuleAtFault (u : unit.Unit) (e : PolicyFault) (extent : Option Extent) : Type 0 where
  OfWhole : has_place u e ≡ false → extent ≡ None → IsRuleAtFault u e extent
  Placed : has_place u e ≡ true → IsExtentAt u e.at extent → IsRuleAtFault u e extent

-- the fault of a unit, if it is no policy that compiles
abbrev pub IsFirstFault : ℕ → unit.Unit → Option PolicyFault → Type 0
IsFirstFault states u (Some e) = IsFaultOfUnit (limit_of states) u e
IsFirstFault states u None = (policy : Policy) × IsPolicyOfUnit (limit_of states) u policy

-- a unit in which the rule or assignment at fault is white space, with its fault, if it has one; without such a rule there is none
pub data IsMended (states : ℕ) (u : unit.Unit) (e : PolicyFault) (next : Option PolicyFault) (v : unit.Unit) : Type 0 where
  NoRule : IsRuleAtFault u e None → next ≡ None → IsMended states u e next v
  Blanked : (x : Extent) → IsRuleAtFault u e (Some x) → IsBlanked x u v → IsFirstFault states v next → IsMended states u e next v

-- what is told of the faults behind one: each is that of the unit in which the rules and assignments at fault before it are white space, and not more than so many are
pub data AreFurther (folders : List (List ℕ)) (states : ℕ) : ℕ → unit.Unit → PolicyFault → List FaultReport → Type 0 where
  Enough : (u : unit.Unit) (e : PolicyFault) → AreFurther folders states 0 u e []
  NoMore : (most : ℕ) (u v : unit.Unit) (e : PolicyFault) → IsMended states u e None v → AreFurther folders states most u e []
  Next : (left : ℕ) (u v : unit.Unit) (e next : PolicyFault) (first : FaultReport) (others : List FaultReport)
      → IsMended states u e (Some next) v → IsDescribed v folders states next first → AreFurther folders states left v next others
      → AreFurther folders states (suc left) u e (first ∷ others)
