use Rattle.std.proofs.Common.{◌≡◌, ◌-◌, length, None, Some, option_map, refl, ap, ◌∙◌, arith, rules}
use Rattle.std.proofs.lemmas.Result.{err_from_is_err_and}
use Rattle.json.specs.Json.{read_key, value}
use Rattle.json.proofs.Grammar.{left, left_none, left_some, read_key-shorter}
use Rattle.serde_json.specs.Data.{no_members, put}
use Rattle.serde_json.specs.Read.{converted, of_json}
use Rattle.aa_jobs.specs.declared.job_fault.JobFault.TheVariants.{NotJson}
use Rattle.aa_jobs.specs.Steps.{needed}
use Rattle.aa_jobs.proofs.Conversion.{key_refused, member_read, member_refused, members_over}
use Rattle.aa_jobs.proofs.Turns.{converted-shorter, needed_is, none_on}
use Rattle.aa_jobs.proofs.stream.pass_members.Goals as goal

pub turns-init : goal.turns-init
turns-init c = (length c.args.reader.now, omega arith, no_members, refl)

pub returns-in_err-next_key : goal.returns-in_err-next_key
returns-in_err-next_key c =
    let l = c.turns in
    let p = err_from_is_err_and c.from_residual.result c.from_residual.ensures.1 in
    rw (p.1, p.2) (none_on c.in_err-next_key.field-0.0 (read_key l.reader) _ (λ none. l.invariant.3 ∙ ap left (key_refused (value c.args.depth) l.invariant.2 l.invariant.0 l.reader none)) c.in_err-next_key.ensures)

pub returns-in_err-pass_next : goal.returns-in_err-pass_next
returns-in_err-pass_next c =
    let l = c.turns in
    let p = err_from_is_err_and c.from_residual-in_err-pass_next.result c.from_residual-in_err-pass_next.ensures.1 in
    let s = c.next_key.new.reader in
    let key : read_key l.reader ≡ Some (Some c.in-Some.field-0.now, s) = needed_is NotJson (read_key l.reader) _ c.in_ok-next_key.ensures ∙ ap (λ k. Some (option_map (λ b. b.now) k, s)) c.in-Some.is in
    rw (p.1, p.2) (none_on c.in_err-pass_next.field-0.0 (left (converted of_json (value c.args.depth s))) _
    (λ none. l.invariant.3 ∙ ap left (member_refused (value c.args.depth) l.invariant.2 l.invariant.0 c.in-Some.field-0.now l.reader s key (left_none (converted of_json (value c.args.depth s)) none))) c.in_err-pass_next.ensures)

pub turns-preserved : goal.turns-preserved
turns-preserved c =
    let l = c.turns in
    let n = l.invariant.0 in
    let s = c.next_key.new.reader in
    let k = c.in-Some.field-0.now in
    let key : read_key l.reader ≡ Some (Some k, s) = needed_is NotJson (read_key l.reader) _ c.in_ok-next_key.ensures ∙ ap (λ x. Some (option_map (λ b. b.now) x, s)) c.in-Some.is in
    let r = c.pass_next.new.reader in
    let d = left_some (converted of_json (value c.args.depth s)) r (needed_is NotJson _ _ c.in_ok-pass_next.ensures) in
    let less = read_key-shorter l.reader (Some k) s key in
    let lesser = converted-shorter c.args.depth s r d.0 d.1 in (
      n - 1,
      omega (arith, l.invariant.1, less, lesser),
      put k d.0 l.invariant.2,
      l.invariant.3 ∙ ap left (member_read (value c.args.depth) l.invariant.2 n k l.reader s r d.0 (omega (arith, l.invariant.1, less)) key d.1),
    )

pub turns-smaller : goal.turns-smaller
turns-smaller c =
    let l = c.turns in
    let s = c.next_key.new.reader in
    let k = c.in-Some.field-0.now in
    let key : read_key l.reader ≡ Some (Some k, s) = needed_is NotJson (read_key l.reader) _ c.in_ok-next_key.ensures ∙ ap (λ x. Some (option_map (λ b. b.now) x, s)) c.in-Some.is in
    let r = c.pass_next.new.reader in
    let d = left_some (converted of_json (value c.args.depth s)) r (needed_is NotJson _ _ c.in_ok-pass_next.ensures) in
    omega (arith, read_key-shorter l.reader (Some k) s key, converted-shorter c.args.depth s r d.0 d.1)

pub returns : goal.returns
returns c =
    let l = c.turns in
    let s = c.next_key.new.reader in
    let none : c.in_ok-next_key.field-0 ≡ None = search rules in
    let key : read_key l.reader ≡ Some (None, s) = needed_is NotJson (read_key l.reader) _ c.in_ok-next_key.ensures ∙ ap (λ x. Some (option_map (λ b. b.now) x, s)) none in
    ap (needed NotJson) (l.invariant.3 ∙ ap left (members_over (value c.args.depth) l.invariant.2 l.invariant.0 l.reader s l.invariant.1 key))
