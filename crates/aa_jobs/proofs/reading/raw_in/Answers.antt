use Rattle.std.proofs.Common.{◌≡◌, [], ◌∷◌, subst, arith}
use Rattle.std.proofs.lemmas.Result.{err_from_is_err_and}
use Rattle.json.specs.Json.{parse_map, value}
use Rattle.json.specs.Reads.{token_of}
use Rattle.serde_json.specs.Read.{converted, of_json}
use Rattle.aa_jobs.specs.declared.job_fault.JobFault.TheVariants.{NotJson}
use Rattle.aa_jobs.specs.Made.{made_job_shape}
use Rattle.aa_jobs.specs.Raw.{raw_job}
use Rattle.aa_jobs.specs.Steps.{Refuses, needed}
use Rattle.aa_jobs.specs.Stream.{Shaped}
use Rattle.aa_jobs.proofs.Turns.{text_more, text_refused, text_shaped}
use Rattle.aa_jobs.proofs.reading.raw_in.Goals as goal

pub returns-in_err-raw : goal.returns-in_err-raw
returns-in_err-raw c =
    let p = err_from_is_err_and c.from_residual.result c.from_residual.ensures.1 in
    let h = subst (λ ts. Refuses c.in_err-raw.field-0.0 (needed NotJson (parse_map made_job_shape (converted of_json (value 127 ts))))) c.in-Ok.ensures.ok
    c.in_err-raw.ensures in
    rw (p.1, p.2) (text_refused c.in_err-raw.field-0.0 c.args.text.now h)

pub returns-in-None : goal.returns-in-None
returns-in-None c =
    let rest = c.job.new.reader in
    let h = subst (λ ts. Shaped raw_job c.in_ok-raw.raw rest (parse_map made_job_shape (converted of_json (value 127 ts)))) c.in-Ok.ensures.ok
    c.in_ok-raw.ensures in
    let over : rest ≡ [] = grind arith in
    text_shaped raw_job c.in_ok-raw.raw c.args.text.now rest h over

pub returns : goal.returns
returns c =
    let rest = c.job.new.reader in
    let h = subst (λ ts. Shaped raw_job c.in_ok-raw.raw rest (parse_map made_job_shape (converted of_json (value 127 ts)))) c.in-Ok.ensures.ok
    c.in_ok-raw.ensures in
    let more : rest ≡ token_of c.in-Some.field-0 ∷ c.next.new.self = grind arith in
    text_more raw_job c.in_ok-raw.raw c.args.text.now rest (token_of c.in-Some.field-0) c.next.new.self h more
