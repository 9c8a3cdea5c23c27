use Rattle.std.proofs.Common.{◌≡◌, ◌-◌, length, None, Some, refl, ap, ◌∙◌, arith}
use Rattle.std.proofs.lemmas.Result.{err_from_is_err_and}
use Rattle.json.specs.Json.{after_end_array, value}
use Rattle.json.proofs.Grammar.{left, left-parse_map, left_none, left_some}
use Rattle.serde_json.specs.Data.{item}
use Rattle.serde_json.specs.Read.{converted, of_json}
use Rattle.aa_jobs.specs.declared.job_fault.JobFault.TheVariants.{NotJson}
use Rattle.aa_jobs.specs.Steps.{needed}
use Rattle.aa_jobs.proofs.Conversion.{item_read, item_refused, items_over}
use Rattle.aa_jobs.proofs.Turns.{converted-shorter, needed_is, none_on}
use Rattle.aa_jobs.proofs.stream.pass_items.Goals as goal

pub turns-init : goal.turns-init
turns-init c = (length c.args.reader.now, omega arith, refl)

pub returns-in_err-pass_next : goal.returns-in_err-pass_next
returns-in_err-pass_next c =
    let l = c.turns in
    let p = err_from_is_err_and c.from_residual.result c.from_residual.ensures.1 in
    let more : (after_end_array l.reader ≡ None) × (c.take_end_array.new.self ≡ l.reader) = grind arith in
    rw (p.1, p.2) (none_on c.in_err-pass_next.field-0.0 _ _
    (λ none. l.invariant.2 ∙ ap left (item_refused (value c.args.depth) l.invariant.0 l.reader more.0 (rw (← more.1) (left_none (converted of_json (value c.args.depth c.take_end_array.new.self)) none)))) c.in_err-pass_next.ensures)

pub turns-preserved : goal.turns-preserved
turns-preserved c =
    let l = c.turns in
    let n = l.invariant.0 in
    let more : (after_end_array l.reader ≡ None) × (c.take_end_array.new.self ≡ l.reader) = grind arith in
    let r = c.pass_next.new.reader in
    let d = left_some (converted of_json (value c.args.depth c.take_end_array.new.self)) r (needed_is NotJson _ _ c.in_ok-pass_next.ensures) in
    let read : converted of_json (value c.args.depth l.reader) ≡ Some (d.0, r) = rw (← more.1) d.1 in
    let less = converted-shorter c.args.depth l.reader r d.0 read in (
      n - 1,
      omega (arith, l.invariant.1, less),
      l.invariant.2 ∙ ap left (item_read (value c.args.depth) n l.reader r d.0 (omega (arith, l.invariant.1, less)) more.0 read) ∙ left-parse_map (item d.0) _,
    )

pub turns-smaller : goal.turns-smaller
turns-smaller c =
    let l = c.turns in
    let more : (after_end_array l.reader ≡ None) × (c.take_end_array.new.self ≡ l.reader) = grind arith in
    let r = c.pass_next.new.reader in
    let d = left_some (converted of_json (value c.args.depth c.take_end_array.new.self)) r (needed_is NotJson _ _ c.in_ok-pass_next.ensures) in
    let read : converted of_json (value c.args.depth l.reader) ≡ Some (d.0, r) = rw (← more.1) d.1 in
    omega (arith, converted-shorter c.args.depth l.reader r d.0 read)

pub returns : goal.returns
returns c =
    let l = c.turns in
    ap (needed NotJson) (l.invariant.2 ∙ ap left (items_over (value c.args.depth) l.invariant.0 l.reader c.take_end_array.new.self l.invariant.1 (grind arith)))
