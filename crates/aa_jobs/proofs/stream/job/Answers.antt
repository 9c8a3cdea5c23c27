use Rattle.std.proofs.Common.{◌≡◌, ◌∷◌, Result, map, sym, ap, subst, ◌∙◌, arith}
use Rattle.std.specs.Prelude.{codes}
use Rattle.std.proofs.lemmas.Result.{err_from_is_err_and}
use Rattle.json.specs.Json.{parse_map, value}
use Rattle.json.specs.Reads.{token_of}
use Rattle.json.specs.Token.{Token}
use Rattle.serde_json.specs.Data.{object}
use Rattle.serde_json.specs.Read.{converted, of_json}
use Rattle.aa_jobs.specs.declared.job_fault.JobFault.{JobFault}
use Rattle.aa_jobs.specs.declared.job_fault.JobFault.TheVariants.{NotJson}
use Rattle.aa_jobs.specs.Parts.{job_with}
use Rattle.aa_jobs.specs.Made.{MadeJob, made_job_shape, made_tasks_shape}
use Rattle.aa_jobs.specs.Raw.{raw_task, raw_job}
use Rattle.aa_jobs.specs.Steps.{Gives, Refuses, needed}
use Rattle.aa_jobs.specs.Stream.{shape_at}
use Rattle.aa_jobs.specs.Trees.{object_data}
use Rattle.aa_jobs.proofs.Apart.{job_is}
use Rattle.aa_jobs.proofs.Turns.{apart_is, brace_not, no_job, nothing_begins, object_none, object_shaped, passed_none, passed_object}
use Rattle.aa_jobs.proofs.stream.job.Goals as goal

pub returns-in_err-token : goal.returns-in_err-token
returns-in_err-token c =
    let p = err_from_is_err_and c.from_residual.result c.from_residual.ensures.1 in
    rw (p.1, p.2)
    (subst (λ e. Refuses e (needed NotJson (parse_map made_job_shape (converted of_json (value c.args.depth c.args.reader.now)))))
    (sym c.in_err-token.ensures.0) (ap (needed NotJson) (nothing_begins made_job_shape c.args.depth c.args.reader.now c.in_err-token.ensures.1)))

pub returns-in_err-members : goal.returns-in_err-members
returns-in_err-members c =
    let p = err_from_is_err_and c.from_residual-in_err-members.result c.from_residual-in_err-members.ensures.1 in
    let mid = c.next_token.new.reader in
    let is : c.args.reader.now ≡ Token.begin_object ∷ mid = c.in_ok-token.ensures ∙ ap (λ t. token_of t ∷ mid) c.in-BeginObject.is in
    rw (p.1, p.2) (object_none c.in_err-members.field-0.0 made_job_shape c.args.depth c.args.reader.now mid
    (omega (arith, c.requires)) is c.in_err-members.ensures)

pub returns-in_ok-members : goal.returns-in_ok-members
returns-in_ok-members c =
    let mid = c.next_token.new.reader in
    let is : c.args.reader.now ≡ Token.begin_object ∷ mid = c.in_ok-token.ensures ∙ ap (λ t. token_of t ∷ mid) c.in-BeginObject.is in
    let members = c.in_ok-members.members in
    let a = apart_is (λ ms. object_data ms.items) (codes "tasks") (λ v. map raw_task v.items) made_tasks_shape
    (members, c.in_ok-members.tasks) c.rest_of_job.new.reader _ c.in_ok-members.ensures in
    let given = shape_at made_tasks_shape (codes "tasks") a.0 in
    let made = c.job.ensures given a.3 in
    let same = ap (λ xs. job_with given (object (object_data xs))) c.as_slice.ensures.value ∙ sym (job_is (object_data members.items) a.0 a.2) in
    object_shaped raw_job c.job.result made_job_shape c.args.depth c.args.reader.now mid c.rest_of_job.new.reader a.0 (omega (arith, c.requires)) is a.1
    (subst (λ (g : Result MadeJob JobFault). Gives raw_job c.job.result g) same made)

pub returns-in_err-pass : goal.returns-in_err-pass
returns-in_err-pass c =
    let p = err_from_is_err_and c.from_residual-in_err-pass.result c.from_residual-in_err-pass.ensures.1 in
    rw (p.1, p.2) (passed_none c.in_err-pass.field-0.0 made_job_shape c.args.depth c.args.reader.now c.next_token.new.reader
    (token_of c.in_ok-token.token) c.in_ok-token.ensures c.in_err-pass.ensures)

pub returns-in_ok-pass : goal.returns-in_ok-pass
returns-in_ok-pass c =
    passed_object raw_job made_job_shape no_job c.args.depth c.args.reader.now c.next_token.new.reader c.pass.new.reader
    (token_of c.in_ok-token.token) c.in_ok-token.ensures (brace_not c.in_ok-token.token c.in_default.not-BeginObject) c.in_ok-pass.ensures
