use Rattle.std.proofs.Common.{arith}
use Rattle.aa_text.proofs.Cuts.{end_stops, end_goes, end_ends}
use Rattle.aa_rule_text.proofs.short.last_whole.Goals as goal

pub returns-then-not-is_cut_at : goal.returns-then-not-is_cut_at
returns-then-not-is_cut_at c = end_stops c.args.text.now c.args.at c.loop-end.end c.is_cut_at.result (omega arith) c.is_cut_at.ensures c.if-not-is_cut_at.true c.loop-end.invariant

pub loop-end-preserved : goal.loop-end-preserved
loop-end-preserved c = end_goes c.args.text.now c.args.at c.loop-end.end c.is_cut_at.result (omega arith) c.is_cut_at.ensures c.if-not-is_cut_at.false c.loop-end.invariant

pub returns : goal.returns
returns c = end_ends c.args.text.now c.args.at c.loop-end.end (omega arith) c.loop-end.invariant
