use Rattle.std.proofs.Common.{◌≡◌, ◌∷◌, sym, ap, subst, ◌∙◌, arith}
use Rattle.std.proofs.lemmas.Result.{err_from_is_err_and}
use Rattle.json.specs.Json.{parse_map, value}
use Rattle.json.specs.Reads.{token_of}
use Rattle.json.specs.Token.{Token}
use Rattle.serde_json.specs.Data.{Data}
use Rattle.serde_json.specs.Read.{converted, of_json}
use Rattle.aa_jobs.specs.declared.job_fault.JobFault.TheVariants.{NotJson}
use Rattle.aa_jobs.specs.Raw.{raw_item}
use Rattle.aa_jobs.specs.Shape.{item_shape}
use Rattle.aa_jobs.specs.Steps.{Refuses, needed}
use Rattle.aa_jobs.specs.Stream.{Reads}
use Rattle.aa_jobs.proofs.Turns.{brace_not, nothing_begins, object_read, passed_item, passed_none, shaped_by, text_not, text_read}
use Rattle.aa_jobs.proofs.stream.item.Goals as goal

pub returns-in_err-token : goal.returns-in_err-token
returns-in_err-token c =
    let p = err_from_is_err_and c.from_residual.result c.from_residual.ensures.1 in
    rw (p.1, p.2)
    (subst (λ e. Refuses e (needed NotJson (parse_map item_shape (converted of_json (value c.args.depth c.args.reader.now)))))
    (sym c.in_err-token.ensures.0) (ap (needed NotJson) (nothing_begins item_shape c.args.depth c.args.reader.now c.in_err-token.ensures.1)))

pub returns-in-BeginObject : goal.returns-in-BeginObject
returns-in-BeginObject c =
    let mid = c.next_token.new.reader in
    let is : c.args.reader.now ≡ Token.begin_object ∷ mid = c.in_ok-token.ensures ∙ ap (λ t. token_of t ∷ mid) c.in-BeginObject.is in
    subst (λ o. Reads raw_item c.rest_of_item.result c.rest_of_item.new.reader o) (sym (object_read item_shape c.args.depth c.args.reader.now mid (omega (arith, c.requires)) is)) c.rest_of_item.ensures

pub returns-in-String : goal.returns-in-String
returns-in-String c =
    let mid = c.next_token.new.reader in
    let word = c.in-String.word.now in
    let is : c.args.reader.now ≡ Token.string word ∷ mid = c.in_ok-token.ensures ∙ ap (λ t. token_of t ∷ mid) c.in-String.is in
    shaped_by raw_item c.word_item.result item_shape (converted of_json (value c.args.depth c.args.reader.now)) (Data.string word) mid
    (ap (λ ts. converted of_json (value c.args.depth ts)) is ∙ text_read c.args.depth word mid) c.word_item.ensures

pub returns-in_err-pass-in_default : goal.returns-in_err-pass-in_default
returns-in_err-pass-in_default c =
    let p = err_from_is_err_and c.from_residual-in_err-pass-in_default.result c.from_residual-in_err-pass-in_default.ensures.1 in
    rw (p.1, p.2) (passed_none c.in_err-pass-in_default.field-0.0 item_shape c.args.depth c.args.reader.now c.next_token.new.reader (token_of c.in_ok-token.token) c.in_ok-token.ensures c.in_err-pass-in_default.ensures)

pub returns-in_ok-pass-in_default : goal.returns-in_ok-pass-in_default
returns-in_ok-pass-in_default c =
    passed_item raw_item c.args.depth c.args.reader.now c.next_token.new.reader c.pass.new.reader (token_of c.in_ok-token.token) c.in_ok-token.ensures
    (brace_not c.in_ok-token.token c.in_default.not-BeginObject) (text_not c.in_ok-token.token c.in_default.not-String) c.in_ok-pass-in_default.ensures
