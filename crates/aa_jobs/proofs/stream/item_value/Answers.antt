use Rattle.std.proofs.Common.{◌≡◌, ◌∷◌, Ok, true, false, sym, ap, subst, ◌∙◌}
use Rattle.std.proofs.lemmas.Result.{err_from_is_err_and}
use Rattle.std.specs.Option.{is_some}
use Rattle.json.proofs.Grammar.{left_some}
use Rattle.json.specs.Json.{parse_map, value}
use Rattle.json.specs.Reads.{token_of}
use Rattle.json.specs.Token.{Token}
use Rattle.serde_json.specs.Read.{converted, number_of, of_json}
use Rattle.aa_jobs.specs.declared.job_fault.JobFault.TheVariants.{NotJson}
use Rattle.aa_jobs.specs.Items.{look}
use Rattle.aa_jobs.specs.Steps.{Refuses, needed}
use Rattle.aa_jobs.proofs.Looks.{boolean_read, no_plain, number_read, plain_not}
use Rattle.aa_jobs.proofs.Turns.{needed_is, nothing_begins, text_read}
use Rattle.aa_jobs.proofs.stream.item_value.Goals as goal

pub returns-in_err-token : goal.returns-in_err-token
returns-in_err-token c =
    let p = err_from_is_err_and c.from_residual.result c.from_residual.ensures.1 in
    rw (p.1, p.2)
    (subst (λ e. Refuses e (needed NotJson (parse_map look (converted of_json (value c.args.depth c.args.reader.now)))))
    (sym c.in_err-token.ensures.0) (ap (needed NotJson) (nothing_begins look c.args.depth c.args.reader.now c.in_err-token.ensures.1)))

pub returns-in-String : goal.returns-in-String
returns-in-String c =
    let mid = c.next_token.new.reader in
    let text = c.in-String.text.now in
    let is : c.args.reader.now ≡ Token.string text ∷ mid = c.in_ok-token.ensures ∙ ap (λ t. token_of t ∷ mid) c.in-String.is in
    ap (λ ts. needed NotJson (parse_map look (converted of_json (value c.args.depth ts)))) is ∙ ap (λ o. needed NotJson (parse_map look o)) (text_read c.args.depth text mid)

pub returns-in-Bool : goal.returns-in-Bool
returns-in-Bool c =
    let mid = c.next_token.new.reader in
    let flag = c.in-Bool.flag in
    let is : c.args.reader.now ≡ Token.boolean flag ∷ mid = c.in_ok-token.ensures ∙ ap (λ t. token_of t ∷ mid) c.in-Bool.is in
    ap (λ ts. needed NotJson (parse_map look (converted of_json (value c.args.depth ts)))) is ∙ ap (λ o. needed NotJson (parse_map look o)) (boolean_read c.args.depth flag mid)

pub returns-then-is_number_in_range : goal.returns-then-is_number_in_range
returns-then-is_number_in_range c =
    let mid = c.next_token.new.reader in
    let digits = c.in-Number.number.now in
    let is : c.args.reader.now ≡ Token.number digits ∷ mid = c.in_ok-token.ensures ∙ ap (λ t. token_of t ∷ mid) c.in-Number.is in
    let fits : is_some (number_of digits) ≡ true = ap (λ d. is_some (number_of d)) (sym c.as_bytes.ensures.value) ∙ sym c.if-is_number_in_range.ensures in
    ap (λ ts. needed NotJson (parse_map look (converted of_json (value c.args.depth ts)))) is ∙ ap (λ o. needed NotJson (parse_map look o)) (number_read c.args.depth digits mid true fits)

pub returns-else-is_number_in_range : goal.returns-else-is_number_in_range
returns-else-is_number_in_range c =
    let mid = c.next_token.new.reader in
    let digits = c.in-Number.number.now in
    let is : c.args.reader.now ≡ Token.number digits ∷ mid = c.in_ok-token.ensures ∙ ap (λ t. token_of t ∷ mid) c.in-Number.is in
    let fits : is_some (number_of digits) ≡ false = ap (λ d. is_some (number_of d)) (sym c.as_bytes.ensures.value) ∙ sym c.if-is_number_in_range.ensures in
    ap (λ ts. needed NotJson (parse_map look (converted of_json (value c.args.depth ts)))) is ∙ ap (λ o. needed NotJson (parse_map look o)) (number_read c.args.depth digits mid false fits)

pub returns-in_ok-pass-in_default : goal.returns-in_ok-pass-in_default
returns-in_ok-pass-in_default c =
    let mid = c.next_token.new.reader in
    let new = c.pass.new.reader in
    let t = token_of c.in_ok-token.token in
    let d = left_some (converted of_json (value c.args.depth (t ∷ mid))) new (needed_is NotJson _ _ c.in_ok-pass-in_default.ensures) in
    let other = plain_not c.in_ok-token.token c.in_default.not-String c.in_default.not-Number c.in_default.not-Bool in
    ap (λ ts. needed NotJson (parse_map look (converted of_json (value c.args.depth ts)))) c.in_ok-token.ensures ∙ ap (λ o. needed NotJson (parse_map look o)) d.1
    ∙ ap (λ l. Ok (l, new)) (no_plain c.args.depth t mid new d.0 other d.1)
