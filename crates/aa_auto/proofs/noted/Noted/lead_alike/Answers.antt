use Rattle.std.proofs.Common.{Contains, subst}
use Rattle.aa_auto.specs.Noted.{IsFree}
use Rattle.aa_auto.specs.Spots.{LeadAlike}
use Rattle.aa_auto.proofs.NotedLemmas.{alike_noted}
use Rattle.aa_auto.proofs.noted.Noted.lead_alike.Goals as goal

pub lead_alike-requires-clause-within : goal.lead_alike-requires-clause-within
lead_alike-requires-clause-within c = λ n h. c.requires.asked n (subst (λ z. Contains z n) c.as_slice-then-are_free.ensures.value h)

pub returns-then-are_free : goal.returns-then-are_free
returns-then-are_free c = λ t set all.
    let free = c.are_free.ensures c.if-are_free.true in
    alike_noted c.args.nodes.now set c.args.mark c.args.self.now.named.items c.args.self.now.asked.items c.args.a c.args.b
    (subst (λ z. IsFree c.args.mark z c.args.a) c.as_slice.ensures.value free.0) (subst (λ z. IsFree c.args.mark z c.args.b) c.as_slice.ensures.value free.1)
    (subst (λ z. LeadAlike c.args.nodes.now c.args.a c.args.b z) c.as_slice-then-are_free.ensures.value (c.lead_alike.ensures t)) all
