use Rattle.std.proofs.Common.{◌≡◌, ◌∷◌, ◌-◌, length, sym, ap, subst, ◌∙◌, arith}
use Rattle.std.proofs.lemmas.Result.{err_from_is_err_and}
use Rattle.json.specs.Json.{items, parse_map, value}
use Rattle.json.specs.Reads.{token_of}
use Rattle.json.specs.Token.{Token}
use Rattle.serde_json.specs.Read.{converted, of_items, of_json}
use Rattle.aa_jobs.specs.declared.job_fault.JobFault.TheVariants.{NotJson}
use Rattle.aa_jobs.specs.Made.{made_items, made_items_shape, mapped}
use Rattle.aa_jobs.specs.Raw.{raw_items}
use Rattle.aa_jobs.specs.Shape.{data_list, item_shape, list_in}
use Rattle.aa_jobs.specs.Steps.{◌>>=◌, Refuses, each, needed}
use Rattle.aa_jobs.specs.Stream.{Reads}
use Rattle.aa_jobs.proofs.Made.{parse_mapped}
use Rattle.aa_jobs.proofs.Turns.{array_opens, bracket_not, no_items, nothing_begins, passed_list, passed_none}
use Rattle.aa_jobs.proofs.stream.items.Goals as goal

pub returns-in_err-token : goal.returns-in_err-token
returns-in_err-token c =
    let p = err_from_is_err_and c.from_residual.result c.from_residual.ensures.1 in
    rw (p.1, p.2)
    (subst (λ e. Refuses e (needed NotJson (parse_map made_items_shape (converted of_json (value c.args.depth c.args.reader.now)))))
    (sym c.in_err-token.ensures.0) (ap (needed NotJson) (nothing_begins made_items_shape c.args.depth c.args.reader.now c.in_err-token.ensures.1)))

pub returns-in-BeginArray : goal.returns-in-BeginArray
returns-in-BeginArray c =
    let mid = c.next_token.new.reader in
    let is : c.args.reader.now ≡ Token.begin_array ∷ mid = c.in_ok-token.ensures ∙ ap (λ t. token_of t ∷ mid) c.in-BeginArray.is in
    let all = converted of_json (value c.args.depth c.args.reader.now) in
    let inner = converted of_items (items (value (c.args.depth - 1)) (length mid) mid) in
    let same : parse_map made_items_shape all ≡ parse_map (λ ds. mapped made_items (each item_shape (data_list ds))) inner =
    parse_mapped (mapped made_items) (λ d. list_in d >>= each item_shape) all
    ∙ ap (parse_map (mapped made_items)) (array_opens item_shape c.args.depth c.args.reader.now mid (omega (arith, c.requires)) is)
    ∙ sym (parse_mapped (mapped made_items) (λ ds. each item_shape (data_list ds)) inner) in
    subst (λ o. Reads raw_items c.rest_of_items.result c.rest_of_items.new.reader o) (sym same) c.rest_of_items.ensures

pub returns-in_err-pass : goal.returns-in_err-pass
returns-in_err-pass c =
    let p = err_from_is_err_and c.from_residual-in_err-pass.result c.from_residual-in_err-pass.ensures.1 in
    rw (p.1, p.2) (passed_none c.in_err-pass.field-0.0 made_items_shape c.args.depth c.args.reader.now c.next_token.new.reader
    (token_of c.in_ok-token.token) c.in_ok-token.ensures c.in_err-pass.ensures)

pub returns-in_ok-pass : goal.returns-in_ok-pass
returns-in_ok-pass c =
    passed_list raw_items made_items_shape no_items c.args.depth c.args.reader.now c.next_token.new.reader c.pass.new.reader
    (token_of c.in_ok-token.token) c.in_ok-token.ensures (bracket_not c.in_ok-token.token c.in_default.not-BeginArray) c.in_ok-pass.ensures
