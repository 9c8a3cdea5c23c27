use Rattle.std.proofs.Common.{◌≡◌, ◌∷◌, Global, Vec, map, sym, ap, subst, ◌∙◌, arith}
use Rattle.std.proofs.lemmas.Result.{err_from_is_err_and}
use Rattle.json.specs.Json.{parse_map, value}
use Rattle.json.specs.Reads.{token_of}
use Rattle.json.specs.Token.{Token}
use Rattle.serde_json.specs.Read.{converted, of_json}
use Rattle.aa_jobs.specs.declared.job_fault.JobFault.TheVariants.{NotJson}
use Rattle.aa_jobs.specs.declared.raw.RawTask.{RawTask}
use Rattle.aa_jobs.specs.Made.{made_task_shape, made_tasks_shape}
use Rattle.aa_jobs.specs.Raw.{raw_task}
use Rattle.aa_jobs.specs.Steps.{Refuses, needed}
use Rattle.aa_jobs.specs.Stream.{Reads}
use Rattle.aa_jobs.proofs.Turns.{array_opens, bracket_not, not_listed, nothing_begins, passed_list, passed_none}
use Rattle.aa_jobs.proofs.stream.tasks.Goals as goal

pub returns-in_err-token : goal.returns-in_err-token
returns-in_err-token c =
    let p = err_from_is_err_and c.from_residual.result c.from_residual.ensures.1 in
    rw (p.1, p.2)
    (subst (λ e. Refuses e (needed NotJson (parse_map made_tasks_shape (converted of_json (value c.args.depth c.args.reader.now)))))
    (sym c.in_err-token.ensures.0) (ap (needed NotJson) (nothing_begins made_tasks_shape c.args.depth c.args.reader.now c.in_err-token.ensures.1)))

pub returns-in-BeginArray : goal.returns-in-BeginArray
returns-in-BeginArray c =
    let mid = c.next_token.new.reader in
    let is : c.args.reader.now ≡ Token.begin_array ∷ mid = c.in_ok-token.ensures ∙ ap (λ t. token_of t ∷ mid) c.in-BeginArray.is in
    subst (λ o. Reads (λ v. map raw_task v.items) c.rest_of_tasks.result c.rest_of_tasks.new.reader o)
    (sym (array_opens made_task_shape c.args.depth c.args.reader.now mid (omega (arith, c.requires)) is)) c.rest_of_tasks.ensures

pub returns-in_err-pass : goal.returns-in_err-pass
returns-in_err-pass c =
    let p = err_from_is_err_and c.from_residual-in_err-pass.result c.from_residual-in_err-pass.ensures.1 in
    rw (p.1, p.2) (passed_none c.in_err-pass.field-0.0 made_tasks_shape c.args.depth c.args.reader.now c.next_token.new.reader
    (token_of c.in_ok-token.token) c.in_ok-token.ensures c.in_err-pass.ensures)

pub returns-in_ok-pass : goal.returns-in_ok-pass
returns-in_ok-pass c =
    passed_list (λ (v : Vec RawTask Global). map raw_task v.items) made_tasks_shape
    (not_listed made_task_shape) c.args.depth c.args.reader.now c.next_token.new.reader c.pass.new.reader
    (token_of c.in_ok-token.token) c.in_ok-token.ensures (bracket_not c.in_ok-token.token c.in_default.not-BeginArray) c.in_ok-pass.ensures
