use Rattle.std.proofs.Common.{arith, ap, length, subst, sym}
use Rattle.aa_auto.specs.Noted.{AreNoted}
use Rattle.aa_auto.specs.Spots.{LeadAlike}
use Rattle.aa_auto.proofs.net.Net.lead_alike.Goals as goal

pub lead_alike-requires-clause-asked : goal.lead_alike-requires-clause-asked
lead_alike-requires-clause-asked c = λ n h. omega (arith, c.requires.asked n h, ap length c.as_slice.ensures.value)

pub returns : goal.returns
returns c = λ t set all.
    subst (λ z. LeadAlike z c.args.a c.args.b set) c.as_slice.ensures.value
    (c.lead_alike.ensures t set (subst (λ z. AreNoted z set c.args.mark c.args.noted.now.named.items c.args.noted.now.asked.items) (sym c.as_slice.ensures.value) all))
