use Rattle.std.proofs.Common.{[], ◌∷◌, ◌++◌, get_or, Bool, false, cond, ap, ◌∙◌}
use Rattle.std.proofs.lemmas.List.{get_or_default}
use Rattle.aa_model.specs.declared.rule.NetRule.{NetRule}
use Rattle.aa_compile.specs.Holding.{net_holds}
use Rattle.aa_redundancy.proofs.Positions.{positions_more}
use Rattle.aa_redundancy.proofs.entries.row_of_net.Goals as goal

pub loop-number-preserved : goal.loop-number-preserved
loop-number-preserved c =
    let rules = c.args.rules.now in
    let i = c.loop-number.number in
    let none : NetRule = record { audit = false; deny = false; families = 0; kinds = 0 } in
    let rule : NetRule = get_or rules i none in
    positions_more (net_holds c.args.family c.args.kind) rules i rule c.loop-number.row.items c.push_if.new.row.items _ c.loop-number-test.true (get_or_default rules i none rule c.loop-number-test.true)
    (c.in_ok-push_if.ensures ∙ ap (λ (b : Bool). c.loop-number.row.items ++ cond b (i ∷ []) []) c.holds_net.ensures) c.loop-number.invariant
