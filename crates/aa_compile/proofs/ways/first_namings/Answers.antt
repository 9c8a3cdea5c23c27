use Rattle.std.proofs.Common.{ap, ◌∙◌, sym, cond, Some, None}
use Rattle.std.specs.Option.{option_or}
use Rattle.aa_compile.specs.Ways.{names}
use Rattle.aa_base.proofs.FirstNumbers.{position_more}
use Rattle.aa_compile.proofs.ways.first_namings.Goals as goal

pub loop-number-preserved : goal.loop-number-preserved
loop-number-preserved c = λ name.
    let i = c.loop-number.number in
    let r = c.index-rules-number.result in
    c.in_ok-add_rule.ensures name
    ∙ ap (λ o. option_or o (cond (names name r) (Some i) None)) (c.loop-number.invariant name)
    ∙ sym (position_more (names name) c.args.rules.now i r c.loop-number-test.true c.index-rules-number.is)
