use Rattle.std.proofs.Common.{[], ◌∷◌, ◌++◌, Bool, cond, ap, ◌∙◌}
use Rattle.aa_compile.specs.Holding.{change_holds}
use Rattle.aa_redundancy.proofs.Positions.{positions_more}
use Rattle.aa_redundancy.proofs.names.row_of_name.Goals as goal

pub loop-number-preserved : goal.loop-number-preserved
loop-number-preserved c =
    positions_more (change_holds c.args.name.now) c.args.rules.now c.loop-number.number c.index-rules-number.result c.loop-number.row.items c.push_if.new.row.items _ c.loop-number-test.true c.index-rules-number.is
    (c.in_ok-push_if.ensures ∙ ap (λ (b : Bool). c.loop-number.row.items ++ cond b (c.loop-number.number ∷ []) []) c.holds_change.ensures) c.loop-number.invariant
