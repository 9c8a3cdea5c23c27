use Rattle.std.proofs.Common.{[], ◌∷◌, ◌++◌, get_or, Bool, false, cond, ap, ◌∙◌}
use Rattle.std.proofs.lemmas.List.{get_or_default}
use Rattle.aa_model.specs.declared.rule.CapRule.{CapRule}
use Rattle.aa_compile.specs.Holding.{cap_holds}
use Rattle.aa_redundancy.proofs.Positions.{positions_more}
use Rattle.aa_redundancy.proofs.entries.row_of_cap.Goals as goal

pub loop-number-preserved : goal.loop-number-preserved
loop-number-preserved c =
    let rules = c.args.rules.now in
    let i = c.loop-number.number in
    let none : CapRule = record { audit = false; deny = false; caps = record { 0 = 0 } } in
    let rule : CapRule = get_or rules i none in
    positions_more (cap_holds c.args.cap) rules i rule c.loop-number.row.items c.push_if.new.row.items _ c.loop-number-test.true (get_or_default rules i none rule c.loop-number-test.true)
    (c.in_ok-push_if.ensures ∙ ap (λ (b : Bool). c.loop-number.row.items ++ cond b (i ∷ []) []) c.holds_cap.ensures) c.loop-number.invariant
