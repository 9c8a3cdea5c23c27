use Rattle.std.proofs.Common.{◌≡◌, ℕ, get_or, refl, sym, ap, ◌∙◌, subst, arith, length, length-append}
use Rattle.aa_auto.specs.Pairs.{pair_after, AreCells, GoesTo, IsPair}
use Rattle.aa_auto.proofs.CellLemmas.{cells_on, cells_more}
use Rattle.aa_auto.proofs.PairLemmas.{goes_on, kept, key_in, no_shorter}
use Rattle.aa_auto.proofs.pairs.fill_row.Goals as goal

pub pair_after-usual-requires : goal.pair_after-usual-requires
pair_after-usual-requires c =
    subst (λ l. IsPair c.args.one.now c.args.other.now (get_or l c.args.row 0)) (sym c.as_slice.ensures)
    (key_in c.args.dead c.args.one.now c.args.other.now c.requires.sides c.args.keys.now c.requires.met c.args.row c.requires.row)

pub loop-byte-init : goal.loop-byte-init
loop-byte-init c =
    let dead = c.args.dead in
    let one = c.args.one.now in
    let other = c.args.other.now in
    let old = c.args.keys.now in
    let new = c.next_pair.new.keys in
    let made = c.in_ok-number.ensures in
    let key : get_or c.as_slice.result.now c.args.row 0 ≡ get_or new c.args.row 0 = ap (λ l. get_or l c.args.row 0) c.as_slice.ensures ∙ sym (kept old new made.extends c.args.row c.requires.row) in
    record {
      met = made.met;
      filled = cells_on (GoesTo dead one other old) (GoesTo dead one other new) c.args.bytes.now c.args.cells.now c.args.row c.requires.cells
          (λ r b n le goes. goes_on old new made.extends dead one other r b n (omega (arith, le, c.requires.row)) goes) c.requires.filled;
      key = key;
      at = made.goes.step ∙ ap (λ z. pair_after dead one other z 255) (sym key) ∙ sym c.pair_after-usual.ensures;
      within = made.goes.within;
      many = omega (arith, c.requires.cells);
      row = omega (arith, c.requires.row, no_shorter old new made.extends);
      few = made.few;
    }

pub loop-byte-preserved : goal.loop-byte-preserved
loop-byte-preserved c =
    let dead = c.args.dead in
    let one = c.args.one.now in
    let other = c.args.other.now in
    let old = c.loop-byte.keys in
    let new = c.cell_of.new.keys in
    let made = c.in_ok-next.ensures in
    let inv = c.loop-byte.invariant in
    record {
      met = made.met;
      filled = subst (λ z. AreCells dead one other new c.args.bytes.now z) (sym c.in_ok-push.ensures)
          (cells_more (GoesTo dead one other old) (GoesTo dead one other new) c.args.bytes.now c.loop-byte.cells c.args.row c.loop-byte.byte-index _ c.in_ok-next.next
          inv.many c.loop-byte-test.true refl (λ r b n le goes. goes_on old new made.extends dead one other r b n (omega (arith, le, inv.row)) goes) inv.filled made.goes);
      key = inv.key ∙ sym (kept old new made.extends c.args.row inv.row);
      at = kept old new made.extends c.in_ok-number.number inv.within ∙ inv.at;
      within = omega (arith, inv.within, no_shorter old new made.extends);
      many = omega (arith, inv.many, length-append {A = ℕ}, ap length c.in_ok-push.ensures);
      row = omega (arith, inv.row, no_shorter old new made.extends);
      few = made.few;
    }
