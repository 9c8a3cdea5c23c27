use Rattle.std.proofs.Common.{true, false, Option, length, subst}
use Rattle.aa_model.specs.declared.request.Request.{Request}
use Rattle.aa_quantifiers.specs.declared.aim.Aim.TheVariants.{Answered}
use Rattle.aa_quantifiers.specs.Aims.{IsMet}
use Rattle.aa_quantifiers.specs.Quantities.{IsBest}
use Rattle.aa_quantifiers.proofs.Best.{answered_is}
use Rattle.aa_quantifiers.proofs.quantity.quantity_by.Goals as goal

pub returns-in-Some-Some-clause-quantity : goal.returns-in-Some-Some-clause-quantity
returns-in-Some-Some-clause-quantity c =
    let ps = c.args.policies.now in
    let l = c.args.label in
    let order = c.args.order in
    let rs = c.args.requests.now in
    let found = c.in-Some-Some in (
      answered_is ps l order c.args.word.now rs c.requires true found.granted
          (subst (λ (o : Option Request). IsBest order (IsMet ps l (Answered true)) rs (length rs) o) found.is-0 c.in_ok-granted.ensures),
      answered_is ps l order c.args.word.now rs c.requires false found.refused
          (subst (λ (o : Option Request). IsBest order (IsMet ps l (Answered false)) rs (length rs) o) found.is-1 c.in_ok-refused.ensures),
    )
