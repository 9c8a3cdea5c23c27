-- What is said of claims that aren't answered.
use Rattle.std.proofs.Common.{◌≡◌, ℕ, Result, Err, subst}
use Rattle.std.specs.Prelude.{IfErr}
use Rattle.aa_claims.specs.declared.fault.Wrong.{Wrong}
use Rattle.aa_claims.specs.declared.fault.ClaimFault.{ClaimFault}
use Rattle.aa_claims.specs.declared.fault.ClaimFault.TheVariants.{At}
use Rattle.aa_claims.specs.Faults.{SaysAt}

pub said_at : {T : Type 0} (r : Result T ClaimFault) (IsSo : ℕ → Wrong → Type 0) (at : ℕ) (fault : Wrong) → r ≡ Err (At at fault) → IfErr r (SaysAt IsSo)
    → IsSo at fault
said_at {T = T} r IsSo at fault e h = subst (λ (x : Result T ClaimFault). IfErr x (SaysAt IsSo)) e h
