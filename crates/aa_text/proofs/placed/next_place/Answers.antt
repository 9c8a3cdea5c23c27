use Rattle.std.proofs.Common.{sym, ◌∙◌}
use Rattle.aa_text.proofs.Counting.{line_next, same_next, column_next}
use Rattle.aa_text.proofs.placed.next_place.Goals as goal

pub returns-then-ends_line : goal.returns-then-ends_line
returns-then-ends_line c = λ before is. line_next before c.args.b c.args.place is (sym c.ends_line.ensures ∙ c.if-ends_line.true)

pub returns-then-continues : goal.returns-then-continues
returns-then-continues c = λ before is. same_next before c.args.b c.args.place is (sym c.ends_line.ensures ∙ c.if-ends_line.false) (sym c.continues.ensures ∙ c.if-continues.true)

pub returns : goal.returns
returns c = λ before is. column_next before c.args.b c.args.place is (sym c.ends_line.ensures ∙ c.if-ends_line.false) (sym c.continues.ensures ∙ c.if-continues.false)
