use Rattle.std.proofs.Common.{Bool, ◌+◌, drop, sym, ap, ◌∙◌}
use Rattle.aa_rules.specs.Modes.{holds_mixed}
use Rattle.aa_rules.proofs.Mixed.{mixed_step, mixed_none}
use Rattle.aa_rules.proofs.Pairs.{pair_found, pair_passed}
use Rattle.aa_rules.proofs.modes.is_mixed.Goals as goal

pub returns-then-is_mixed_here : goal.returns-then-is_mixed_here
returns-then-is_mixed_here c = pair_found _ _ _ _ (mixed_step c.loop-i.may_begin c.args.mode.now c.loop-i.i c.loop-i-test.true) (sym c.is_mixed_here.ensures ∙ c.if-is_mixed_here.true) c.loop-i.invariant

pub loop-i-preserved : goal.loop-i-preserved
loop-i-preserved c =
    pair_passed _ _ _ _ (mixed_step c.loop-i.may_begin c.args.mode.now c.loop-i.i c.loop-i-test.true) (sym c.is_mixed_here.ensures ∙ c.if-is_mixed_here.false) c.loop-i.invariant
    ∙ ap (λ (b : Bool). holds_mixed b (drop (c.loop-i.i + 1) c.args.mode.now)) (sym c.frees_part-may_begin.ensures)

pub returns : goal.returns
returns c = mixed_none c.loop-i.may_begin c.args.mode.now c.loop-i.i c.loop-i-test.false c.loop-i.invariant
