use Rattle.std.proofs.Common.{◌+◌, sym, ◌∙◌}
use Rattle.aa_logs.proofs.Pieces.{all_behind}
use Rattle.aa_logs.proofs.Marks.{none_before, none_more, no_record, a_record, sign_within}
use Rattle.aa_logs.proofs.line.is_record.Goals as goal

pub signs-init : goal.signs-init
signs-init c = none_before c.args.line.now

pub signs-preserved : goal.signs-preserved
signs-preserved c =
    none_more c.args.line.now _ c.signs.from c.in-Some.before (all_behind c.signs.from c.args.line.now) c.in-Some.ensures.0 (sym c.has_mark_at.ensures ∙ c.if-has_mark_at.false) c.signs.invariant

pub returns-then-has_mark_at : goal.returns-then-has_mark_at
returns-then-has_mark_at c =
    a_record c.args.line.now (c.signs.from + c.in-Some.before) (sign_within c.args.line.now _ c.signs.from c.in-Some.before (all_behind c.signs.from c.args.line.now) c.in-Some.ensures.0) (sym c.has_mark_at.ensures ∙ c.if-has_mark_at.true)

pub returns : goal.returns
returns c = no_record c.args.line.now _ c.signs.from (all_behind c.signs.from c.args.line.now) c.in_default.ensures c.signs.invariant
