use Rattle.std.proofs.Common.{◌+◌, Some, sym, subst}
use Rattle.aa_model.specs.declared.request.Request.{Request}
use Rattle.aa_quantifiers.specs.Quantities.{IsBest}
use Rattle.aa_quantifiers.specs.Aims.{IsMet}
use Rattle.aa_quantifiers.proofs.Best.{passed_over, taken}
use Rattle.aa_quantifiers.proofs.shortest.take_if_better.Goals as goal

pub returns-then-is_passed : goal.returns-then-is_passed
returns-then-is_passed c =
    passed_over c.args.order (IsMet c.args.policies.now c.args.label c.args.aim) c.args.requests.now c.args.number
    c.index-requests-number.result c.requires.within c.index-requests-number.is c.args.best.now
    (c.is_passed.ensures.passed c.if-is_passed.true) c.requires.best

pub returns : goal.returns
returns c =
    let ps = c.args.policies.now in
    let rs = c.args.requests.now in
    let better = c.is_passed.ensures.better c.if-is_passed.false in
    subst (λ (x : Request). IsBest c.args.order (IsMet ps c.args.label c.args.aim) rs (c.args.number + 1) (Some x)) (sym c.in_ok-try_clone.ensures.same)
    (taken c.args.order (IsMet ps c.args.label c.args.aim) rs c.args.number c.index-requests-number.result
    c.requires.within c.index-requests-number.is c.args.best.now better.1 better.0 c.requires.best)
