use Rattle.std.proofs.Common.{sym, ◌∙◌, arith}
use Rattle.aa_text.proofs.Lines.{line_begins, line_found, line_passed}
use Rattle.aa_text.proofs.place.behind_line_ends.Goals as goal

pub loop-rest-init : goal.loop-rest-init
loop-rest-init c = line_begins c.args.text.now

pub loop-rest-preserved-then-ends_line : goal.loop-rest-preserved-then-ends_line
loop-rest-preserved-then-ends_line c = line_found c.args.text.now c.loop-rest.rest.now c.loop-rest.line.now (omega arith) (sym c.ends_line.ensures ∙ c.if-ends_line.true) c.loop-rest.invariant

pub loop-rest-preserved : goal.loop-rest-preserved
loop-rest-preserved c = line_passed c.args.text.now c.loop-rest.rest.now c.loop-rest.line.now (omega arith) (sym c.ends_line.ensures ∙ c.if-ends_line.false) c.loop-rest.invariant
