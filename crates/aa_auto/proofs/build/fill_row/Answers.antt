use Rattle.std.proofs.lemmas.Grind.{common_steps}
use Rattle.std.proofs.Common.{ℕ, refl, sym, ap, subst, arith, length, length-append}
use Rattle.aa_auto.specs.Explored.{AreFilled}
use Rattle.aa_auto.specs.Noted.{AreNoted}
use Rattle.aa_auto.proofs.CellLemmas.{kept, longer, filled_more, filled_on, goes_on}
use Rattle.aa_auto.proofs.build.fill_row.Goals as goal

pub loop-byte-init : goal.loop-byte-init
loop-byte-init c = record {
  reached = c.in_ok-usual.ensures.reached;
  listed = c.in_ok-usual.ensures.listed;
  filled = filled_on c.args.net.now c.args.found.now.sets c.next_row.new.found.sets c.in_ok-usual.ensures.extends c.args.bytes.now c.args.cells.now c.args.row c.requires.cells c.requires.row c.requires.filled;
  usual = c.in_ok-usual.ensures.goes;
  noted = c.in_ok-note_row.ensures;
  many = omega (arith, c.requires.cells);
  row = omega (arith, c.requires.row, longer c.args.net.now c.args.found.now.sets c.next_row.new.found.sets c.in_ok-usual.ensures.extends);
  few = c.in_ok-usual.ensures.few;
}

pub loop-byte-preserved : goal.loop-byte-preserved
loop-byte-preserved c = record {
  reached = c.in_ok-next.ensures.reached;
  listed = c.in_ok-next.ensures.listed;
  filled = subst (λ z. AreFilled c.args.net.now c.cell_of.new.found.sets c.args.bytes.now z) (sym c.in_ok-push.ensures)
      (filled_more c.args.net.now c.loop-byte.found.sets c.cell_of.new.found.sets c.in_ok-next.ensures.extends c.args.bytes.now c.loop-byte.cells c.args.row c.loop-byte.byte-index _ c.in_ok-next.next
      c.loop-byte.invariant.many c.loop-byte-test.true refl c.loop-byte.invariant.row c.loop-byte.invariant.filled c.in_ok-next.ensures.goes);
  usual = goes_on c.args.net.now c.loop-byte.found.sets c.cell_of.new.found.sets c.in_ok-next.ensures.extends c.args.row 255 c.in_ok-usual.usual c.loop-byte.invariant.row c.loop-byte.invariant.usual;
  noted = subst (λ z. AreNoted c.args.net.now.nodes.items z c.args.row c.note_row.new.noted.named.items c.note_row.new.noted.asked.items)
      (sym (kept c.args.net.now c.loop-byte.found.sets c.cell_of.new.found.sets c.in_ok-next.ensures.extends c.args.row c.loop-byte.invariant.row)) c.loop-byte.invariant.noted;
  many = omega (arith, c.loop-byte.invariant.many, length-append {A = ℕ}, ap length c.in_ok-push.ensures);
  row = omega (arith, c.loop-byte.invariant.row, longer c.args.net.now c.loop-byte.found.sets c.cell_of.new.found.sets c.in_ok-next.ensures.extends);
  few = c.in_ok-next.ensures.few;
}

pub note_row-requires-clause-row : goal.note_row-requires-clause-row
note_row-requires-clause-row c = grind (arith, common_steps)

pub note_row-requires-clause-number : goal.note_row-requires-clause-number
note_row-requires-clause-number c = omega (arith, c.requires.row, c.requires.few, c.requires.limit)
