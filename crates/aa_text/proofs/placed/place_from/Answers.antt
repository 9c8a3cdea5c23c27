use Rattle.std.proofs.Common.{refl, arith}
use Rattle.aa_text.proofs.Counting.{line_small, column_small, place_on}
use Rattle.aa_text.proofs.placed.place_from.Goals as goal

pub next_place-behind-requires-clause-line : goal.next_place-behind-requires-clause-line
next_place-behind-requires-clause-line c = omega (arith, line_small c.args.text.now c.loop-at.at c.loop-at.behind c.loop-at.invariant)

pub next_place-behind-requires-clause-column : goal.next_place-behind-requires-clause-column
next_place-behind-requires-clause-column c = omega (arith, column_small c.args.text.now c.loop-at.at c.loop-at.behind c.loop-at.invariant)

pub loop-at-preserved : goal.loop-at-preserved
loop-at-preserved c = place_on c.args.text.now c.loop-at.at _ c.loop-at.behind _ (omega arith) refl c.next_place-behind.ensures c.loop-at.invariant
