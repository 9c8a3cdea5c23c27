use Rattle.std.proofs.Common.{subst, sym}
use Rattle.aa_load.specs.UnitPolicy.{limit_of}
use Rattle.aa_quantifiers.specs.Aims.{IsMet}
use Rattle.aa_assert.specs.declared.judging.Judgement.{Judgement}
use Rattle.aa_assert.specs.Judging.{IsJudged}
use Rattle.aa_assert.proofs.Judged.{sought_judged}
use Rattle.aa_assert.proofs.judging.judge.Goals as goal

pub returns-clause-judged : goal.returns-clause-judged
returns-clause-judged c =
    let ps = c.args.policies.now in
    let limit = limit_of c.args.states in
    let l = c.args.label in
    let w = c.args.word.now in
    let text = c.args.text.now in
    subst (λ (j : Judgement). IsJudged ps limit l (IsMet ps l c.args.aim) w text j) (sym c.judged.ensures)
    (sought_judged ps limit l w text c.args.aim c.in_ok-sought.sought c.in_ok-sought.ensures.sought)
