-- What is written on a line of its own is read as an item.
use Rattle.std.proofs.Common.{◌≡◌, ℕ, ◌≤◌, Bool, List, ◌++◌, cond, ◌∙◌, ap, arith, codes, Ok, Err}
use Rattle.serde_json.specs.Data.{Data, depth}
use Rattle.serde_json.specs.Read.{read, max_depth}
use Rattle.serde_json.specs.Written.{compact_text}
use Rattle.aa_notation.specs.Kinds.{request_text}
use Rattle.aa_jobs.specs.declared.job_fault.JobFault.TheVariants.{NotJson}
use Rattle.aa_jobs.specs.Steps.{◌>>=◌, needed}
use Rattle.aa_jobs.specs.Shape.{item_shape}
use Rattle.aa_jobs.specs.Meaning.{work_of}
use Rattle.aa_jobs.specs.Jobs.{json_of}
use Rattle.aa_text.specs.Again.{IsPlain, settled, IsTextOf}
use Rattle.aa_text.proofs.Written.{values}
use Rattle.aa_round_trip_laws.specs.Again.{RequestsAreRead}
use Rattle.aa_round_trip_laws.proofs.Requests.{request_data, request_written, request_plain, request_shallow, request_shaped, request_means}

json_is : (bytes : List ℕ) (d : Data) → IsTextOf bytes d → json_of bytes ≡ Ok d
json_is bytes d t = ap (λ (b : Bool). cond b (needed NotJson (read bytes)) (Err NotJson)) t.0 ∙ ap (needed NotJson) t.1

-- the text of a value is that value as JSON
pub line_read : (text : List ℕ) (d : Data) → text ≡ compact_text d → IsPlain d → depth d ≤ max_depth → json_of (text ++ codes "\n") ≡ Ok (settled d)
line_read text d e p shallow = ap (λ l. json_of (l ++ codes "\n")) e ∙ json_is (compact_text d ++ codes "\n") (settled d) (values d p shallow)

pub requests : RequestsAreRead
requests n few r c u =
    let d = request_data r in
    ap (λ j. (j >>= item_shape) >>= work_of n) (line_read (request_text r) d (request_written n r c u) (request_plain n r c few u) (omega (arith, request_shallow r)))
    ∙ (ap (λ s. s >>= work_of n) (request_shaped r) ∙ request_means n r c)
