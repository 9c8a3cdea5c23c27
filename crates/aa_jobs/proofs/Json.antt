-- The JSON value of bytes, where they are UTF-8 and where they aren't.
use Rattle.std.proofs.Common.{◌≡◌, ℕ, Bool, true, false, cond, List, Result, Err, refl}
use Rattle.std.specs.Str.{is_utf8, IsUtf8}
use Rattle.std.proofs.lemmas.Str.{is_utf8-from_IsUtf8, IsUtf8-from_is_utf8}
use Rattle.serde_json.specs.Data.{Data}
use Rattle.serde_json.specs.Read.{read}
use Rattle.aa_jobs.specs.declared.job_fault.JobFault.{JobFault}
use Rattle.aa_jobs.specs.declared.job_fault.JobFault.TheVariants.{NotJson}
use Rattle.aa_jobs.specs.Steps.{needed}
use Rattle.aa_jobs.specs.Jobs.{json_of}

abbrev gated : Bool → Result Data JobFault → Result Data JobFault
gated b given = cond b given (Err NotJson)

let_through : (b : Bool) (given : Result Data JobFault) → b ≡ true → gated b given ≡ given
let_through b given h = rw h refl

kept_out : (b : Bool) (given : Result Data JobFault) → (b ≡ true → ⊥) → gated b given ≡ Err NotJson
kept_out true given h = absurd (h refl)
kept_out false given h = refl

pub json_of_text : (bytes : List ℕ) → IsUtf8 bytes → json_of bytes ≡ needed NotJson (read bytes)
json_of_text bytes u = let_through (is_utf8 bytes) (needed NotJson (read bytes)) (is_utf8-from_IsUtf8 bytes u)

pub json_of_no_text : (bytes : List ℕ) → (IsUtf8 bytes → ⊥) → json_of bytes ≡ Err NotJson
json_of_no_text bytes h = kept_out (is_utf8 bytes) (needed NotJson (read bytes)) (λ e. h (IsUtf8-from_is_utf8 bytes e))
