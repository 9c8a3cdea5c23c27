use Rattle.std.proofs.Common.{refl, arith, subst}
use Rattle.std.proofs.lemmas.List.{take_all}
use Rattle.aa_auto.specs.Spots.{LeadAlike}
use Rattle.aa_auto.proofs.SortedLemmas.{contains_at}
use Rattle.aa_auto.proofs.MoveLemmas.{alike_more}
use Rattle.aa_auto.proofs.moves.lead_alike.Goals as goal

pub leads_alike-requires-clause-start : goal.leads_alike-requires-clause-start
leads_alike-requires-clause-start c = c.requires.within _ (contains_at c.args.set.now c.loop-start.start-index _ c.loop-start-test.true refl)

pub loop-start-preserved : goal.loop-start-preserved
loop-start-preserved c =
    alike_more c.args.nodes.now c.args.a c.args.b c.args.set.now c.loop-start.start-index _ c.loop-start-test.true refl c.loop-start.invariant
    (c.leads_alike.ensures (search (arith, c.if-not-leads_alike.false)))

pub returns : goal.returns
returns c = λ _. subst (λ z. LeadAlike c.args.nodes.now c.args.a c.args.b z) (take_all c.loop-start.start-index c.args.set.now (omega arith)) c.loop-start.invariant
