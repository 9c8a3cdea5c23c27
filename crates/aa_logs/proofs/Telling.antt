-- A mask that is asked for, beside the definition that it is of.
use Rattle.std.proofs.Common.{◌≡◌, ℕ, List, Option, Some, None, sym, ap, subst}
use Rattle.std.specs.Prelude.{Result, Err}
use Rattle.aa_model.specs.declared.request.Request.{Request}
use Rattle.aa_logs.specs.declared.line.Reason.TheVariants.{Operation}
use Rattle.aa_logs.specs.declared.line.Refusal.{Refusal}
use Rattle.aa_logs.specs.Words.{WordData}
use Rattle.aa_logs.specs.Asked.{Because, Tells, file_in, requested_by}

-- with a mask it is the use of a file, and without one it is none
pub requested_some : (r : Result Request Refusal) (ws : List WordData) (letters : List ℕ) (o : Option (List ℕ)) → Some letters ≡ o
    → Tells (λ (y : Request). y) r (file_in ws letters) → Tells (λ (y : Request). y) r (requested_by ws o)
requested_some r ws letters o e t = subst (λ q. Tells (λ (y : Request). y) r (requested_by ws q)) e t

pub requested_none : (ws : List WordData) (o : Option (List ℕ)) → None ≡ o → requested_by ws o ≡ Err (Because Operation)
requested_none ws o e = sym (ap (requested_by ws) e)
