use Rattle.std.proofs.Common.{◌≡◌, ◌-◌, [], List, Ok, Result, Option, None, Some, true, length, map, refl, sym, ap, subst, ◌∙◌, arith}
use Rattle.std.proofs.lemmas.Result.{err_from_is_err_and}
use Rattle.json.specs.Json.{after_end_array, items, parse_map, value}
use Rattle.json.specs.Token.{Token}
use Rattle.serde_json.specs.Read.{converted, of_items, of_json}
use Rattle.aa_jobs.specs.declared.job_fault.JobFault.{JobFault}
use Rattle.aa_jobs.specs.Made.{MadeItems, made_items, mapped}
use Rattle.aa_jobs.specs.Raw.{kept_work, raw_item, raw_items}
use Rattle.aa_jobs.specs.Shape.{data_list, item_shape}
use Rattle.aa_jobs.specs.Steps.{each}
use Rattle.aa_jobs.specs.Stream.{Shaped, followed}
use Rattle.aa_jobs.proofs.Made.{parse_mapped}
use Rattle.aa_jobs.proofs.Turns.{converted-shorter, going_done, going_ends, going_first, going_on, none_on, shaped_is, unmapped}
use Rattle.aa_jobs.proofs.stream.rest_of_items.Goals as goal

pub turns-init : goal.turns-init
turns-init c =
    let all = converted of_items (items (value c.args.depth) (length c.args.reader.now) c.args.reader.now) in (
      length c.args.reader.now,
      omega arith,
      Ok [],
      ap (λ xs. Ok (record { works = map kept_work xs; are_good = true }))
          (sym c.new.ensures.items),
      going_first item_shape all,
    )

pub returns-in_err-item : goal.returns-in_err-item
returns-in_err-item c =
    let l = c.turns in
    let p = err_from_is_err_and c.from_residual.result c.from_residual.ensures.1 in
    let more : (after_end_array l.reader ≡ None) × (c.take_end_array.new.self ≡ l.reader) = grind arith in
    rw (p.1, p.2) (none_on c.in_err-item.field-0.0 _ _
    (λ none. let whole = converted of_items (items (value c.args.depth) (length c.args.reader.now) c.args.reader.now) in
    parse_mapped (mapped made_items) (λ ds. each item_shape (data_list ds)) whole
    ∙ ap (parse_map (mapped made_items)) (l.invariant.4 ∙ going_ends item_shape c.args.depth l.invariant.0 l.invariant.2 l.reader more.0
    (rw (← more.1) (unmapped item_shape (converted of_json (value c.args.depth c.take_end_array.new.self)) none)))) c.in_err-item.ensures)

pub turns-preserved : goal.turns-preserved
turns-preserved c =
    let l = c.turns in
    let n = l.invariant.0 in
    let more : (after_end_array l.reader ≡ None) × (c.take_end_array.new.self ≡ l.reader) = grind arith in
    let r = c.item.new.reader in
    let s = shaped_is raw_item c.in_ok-item.item item_shape (converted of_json (value c.args.depth c.take_end_array.new.self)) r c.in_ok-item.ensures in
    let read : converted of_json (value c.args.depth l.reader) ≡ Some (s.0, r) = rw (← more.1) s.1 in
    let less = converted-shorter c.args.depth l.reader r s.0 read in (
      n - 1,
      omega (arith, l.invariant.1, less),
      followed l.invariant.2 (item_shape s.0),
      c.with_item-items.ensures l.invariant.2 (item_shape s.0) l.invariant.3 s.2,
      l.invariant.4 ∙ going_on item_shape c.args.depth n l.invariant.2 l.reader r s.0 (omega (arith, l.invariant.1, less)) more.0 read,
    )

pub turns-smaller : goal.turns-smaller
turns-smaller c =
    let l = c.turns in
    let more : (after_end_array l.reader ≡ None) × (c.take_end_array.new.self ≡ l.reader) = grind arith in
    let r = c.item.new.reader in
    let s = shaped_is raw_item c.in_ok-item.item item_shape (converted of_json (value c.args.depth c.take_end_array.new.self)) r c.in_ok-item.ensures in
    let read : converted of_json (value c.args.depth l.reader) ≡ Some (s.0, r) = rw (← more.1) s.1 in
    omega (arith, converted-shorter c.args.depth l.reader r s.0 read)

pub returns : goal.returns
returns c =
    let l = c.turns in
    let r = c.take_end_array.new.self in
    let e = l.invariant.4 ∙ going_done item_shape c.args.depth l.invariant.0 l.invariant.2 l.reader r l.invariant.1 (grind arith) in
    let whole = converted of_items (items (value c.args.depth) (length c.args.reader.now) c.args.reader.now) in
    let same = parse_mapped (mapped made_items) (λ ds. each item_shape (data_list ds)) whole ∙ ap (parse_map (mapped made_items)) e in
    subst (λ (o : Option (Result MadeItems JobFault × List Token)). Shaped raw_items l.items r o) (sym same) (refl, l.invariant.3)
