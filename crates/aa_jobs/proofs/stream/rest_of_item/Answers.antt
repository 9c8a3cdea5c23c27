use Rattle.std.proofs.Common.{◌≡◌, ◌-◌, length, true, false, None, Some, Option, Result, Err, List, option_map, refl, sym, ap, subst, ◌∙◌}
use Rattle.std.proofs.Common.{arith, rules}
use Rattle.std.proofs.lemmas.Result.{err_from_is_err_and}
use Rattle.json.specs.Json.{parse_map, read_key, value}
use Rattle.json.specs.Token.{Token}
use Rattle.json.proofs.Grammar.{read_key-shorter}
use Rattle.serde_json.specs.Data.{Members, no_members, object, put}
use Rattle.serde_json.specs.Read.{converted, of_json}
use Rattle.aa_jobs.specs.declared.job_fault.JobFault.{JobFault}
use Rattle.aa_jobs.specs.declared.job_fault.JobFault.TheVariants.{NotJson, BadShape}
use Rattle.aa_jobs.specs.Items.{Looked, item_object, look, value_data}
use Rattle.aa_jobs.specs.Raw.{raw_item}
use Rattle.aa_jobs.specs.Shape.{item_shape, request_shape}
use Rattle.aa_jobs.specs.Steps.{Gives}
use Rattle.aa_jobs.specs.Stream.{Shaped}
use Rattle.aa_jobs.specs.Written.{WrittenItem}
use Rattle.aa_jobs.proofs.Conversion.{key_refused, member_read, member_refused, members_over}
use Rattle.aa_jobs.proofs.Looks.{alike_first, request_none, request_same, seen_is}
use Rattle.aa_jobs.proofs.Turns.{converted-shorter, needed_is, none_on, unmapped}
use Rattle.aa_jobs.proofs.stream.rest_of_item.Goals as goal

abbrev shape : Members → Result WrittenItem JobFault
shape ms = item_shape (object ms)

pub turns-init : goal.turns-init
turns-init c =
    (length c.args.reader.now, omega arith, no_members, subst (λ ms. Looked true (item_object ms) no_members) (sym c.clear.ensures.items) alike_first, refl)

pub returns-in_err-name : goal.returns-in_err-name
returns-in_err-name c =
    let l = c.turns in
    let p = err_from_is_err_and c.from_residual.result c.from_residual.ensures.1 in
    rw (p.1, p.2) (none_on c.in_err-name.field-0.0 (read_key l.reader) _ (λ none. ap (parse_map shape) (l.invariant.4 ∙ key_refused (value c.args.depth) l.invariant.2 l.invariant.0 l.reader none)) c.in_err-name.ensures)

pub returns-in_err-value : goal.returns-in_err-value
returns-in_err-value c =
    let l = c.turns in
    let p = err_from_is_err_and c.from_residual-in_err-value.result c.from_residual-in_err-value.ensures.1 in
    let s = c.next_key.new.reader in
    let key : read_key l.reader ≡ Some (Some c.in-Some.name.now, s) = needed_is NotJson (read_key l.reader) _ c.in_ok-name.ensures ∙ ap (λ x. Some (option_map (λ b. b.now) x, s)) c.in-Some.is in
    rw (p.1, p.2) (none_on c.in_err-value.field-0.0 (parse_map look (converted of_json (value c.args.depth s))) _
    (λ none. ap (parse_map shape) (l.invariant.4 ∙ member_refused (value c.args.depth) l.invariant.2 l.invariant.0 c.in-Some.name.now l.reader s key (unmapped look (converted of_json (value c.args.depth s)) none)))
    c.in_err-value.ensures)

pub turns-preserved : goal.turns-preserved
turns-preserved c =
    let l = c.turns in
    let n = l.invariant.0 in
    let s = c.next_key.new.reader in
    let k = c.in-Some.name.now in
    let key : read_key l.reader ≡ Some (Some k, s) = needed_is NotJson (read_key l.reader) _ c.in_ok-name.ensures ∙ ap (λ x. Some (option_map (λ b. b.now) x, s)) c.in-Some.is in
    let r = c.item_value.new.reader in
    let v = c.in_ok-value.value in
    let read = seen_is (converted of_json (value c.args.depth s)) (look (value_data v)) r (needed_is NotJson _ _ c.in_ok-value.ensures) in
    let less = read_key-shorter l.reader (Some k) s key in
    let lesser = converted-shorter c.args.depth s r read.0 read.1 in (
      n - 1,
      omega (arith, l.invariant.1, less, lesser),
      put k read.0 l.invariant.2,
      c.in_ok-known.ensures l.invariant.2 read.0 l.invariant.3 read.2,
      l.invariant.4 ∙ member_read (value c.args.depth) l.invariant.2 n k l.reader s r read.0 (omega (arith, l.invariant.1, less)) key read.1,
    )

pub turns-smaller : goal.turns-smaller
turns-smaller c =
    let l = c.turns in
    let s = c.next_key.new.reader in
    let k = c.in-Some.name.now in
    let key : read_key l.reader ≡ Some (Some k, s) = needed_is NotJson (read_key l.reader) _ c.in_ok-name.ensures ∙ ap (λ x. Some (option_map (λ b. b.now) x, s)) c.in-Some.is in
    let r = c.item_value.new.reader in
    let read = seen_is (converted of_json (value c.args.depth s)) (look (value_data c.in_ok-value.value)) r (needed_is NotJson _ _ c.in_ok-value.ensures) in
    omega (arith, read_key-shorter l.reader (Some k) s key, converted-shorter c.args.depth s r read.0 read.1)

pub returns-then-known : goal.returns-then-known
returns-then-known c =
    let l = c.turns in
    let s = c.next_key.new.reader in
    let none : c.in_ok-name.field-0 ≡ None = search rules in
    let key : read_key l.reader ≡ Some (None, s) = needed_is NotJson (read_key l.reader) _ c.in_ok-name.ensures ∙ ap (λ x. Some (option_map (λ b. b.now) x, s)) none in
    let e = l.invariant.4 ∙ members_over (value c.args.depth) l.invariant.2 l.invariant.0 l.reader s l.invariant.1 key in
    let seen : Looked true (item_object l.room.items) l.invariant.2 = subst (λ b. Looked b (item_object l.room.items) l.invariant.2) c.if-known.true l.invariant.3 in
    let same = ap (λ xs. request_shape (object (item_object xs))) c.as_slice.ensures.value ∙ request_same (item_object l.room.items) l.invariant.2 seen in
    subst (λ (o : Option (Members × List Token)). Shaped raw_item c.request_item.result s (parse_map shape o)) (sym e)
    (refl, subst (λ (g : Result WrittenItem JobFault). Gives raw_item c.request_item.result g) same c.request_item.ensures)

pub returns-else-known : goal.returns-else-known
returns-else-known c =
    let l = c.turns in
    let s = c.next_key.new.reader in
    let none : c.in_ok-name.field-0 ≡ None = search rules in
    let key : read_key l.reader ≡ Some (None, s) = needed_is NotJson (read_key l.reader) _ c.in_ok-name.ensures ∙ ap (λ x. Some (option_map (λ b. b.now) x, s)) none in
    let e = l.invariant.4 ∙ members_over (value c.args.depth) l.invariant.2 l.invariant.0 l.reader s l.invariant.1 key in
    let seen : Looked false (item_object l.room.items) l.invariant.2 = subst (λ b. Looked b (item_object l.room.items) l.invariant.2) c.if-known.false l.invariant.3 in
    subst (λ (o : Option (Members × List Token)). Shaped raw_item (Err BadShape) s (parse_map shape o)) (sym e) (refl, request_none l.invariant.2 seen)
