-- Lines that name rules.
use Rattle.std.proofs.Common.{◌≡◌, ℕ, List, [], ◌∷◌, Option, Some, None, MatchOption, refl, sym, subst}
use Rattle.std.specs.Prelude.{slice_get}
use Rattle.aa_base.specs.declared.fault.Spot.{Spot}
use Rattle.aa_files.specs.declared.unit.Unit as unit
use Rattle.aa_diagnostics.specs.Conflicts.{IsRuleLine, AreRuleLines}

module _ (u : unit.Unit) (places : List Spot) (number : ℕ) where
  abbrev are : List (List ℕ) → Option Spot → Type 0
  are lines o = MatchOption o (lines ≡ []) (λ at. (line : List ℕ) × (lines ≡ line ∷ []) × IsRuleLine u at line)

  pub one_line : (at : Spot) (line : List ℕ) → slice_get places number ≡ Some at → IsRuleLine u at line → AreRuleLines u places number (line ∷ [])
  one_line at line got is = subst (are (line ∷ [])) (sym got) (line, refl, is)

  pub no_line : slice_get places number ≡ None → AreRuleLines u places number []
  no_line none = subst (are []) (sym none) refl
