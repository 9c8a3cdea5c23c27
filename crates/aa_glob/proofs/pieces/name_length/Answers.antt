use Rattle.std.proofs.Common.{rules}
use Rattle.std.proofs.Common.{sym, ◌∙◌}
use Rattle.aa_glob.proofs.Runs.{stops_not, goes_yet}
use Rattle.aa_glob.proofs.PieceSteps.{name_step, names_end}
use Rattle.aa_glob.proofs.pieces.name_length.Goals as goal

pub returns-then-not-is_name_byte-clause-length : goal.returns-then-not-is_name_byte-clause-length
returns-then-not-is_name_byte-clause-length c = stops_not _ _ _ _ _ (name_step c.args.text.now c.loop-i.i _ c.loop-i-test.true) (sym c.is_name_byte.ensures ∙ c.if-not-is_name_byte.true) c.loop-i.invariant

pub loop-i-preserved : goal.loop-i-preserved
loop-i-preserved c = goes_yet _ _ _ _ _ (name_step c.args.text.now c.loop-i.i _ c.loop-i-test.true) (sym c.is_name_byte.ensures ∙ c.if-not-is_name_byte.false) c.loop-i.invariant

pub returns-clause-length : goal.returns-clause-length
returns-clause-length c = search (rules, names_end)
