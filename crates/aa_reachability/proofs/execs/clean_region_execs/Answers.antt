use Rattle.std.proofs.Common.{List, Contains, subst}
use Rattle.aa_regions.specs.declared.regions.Region.{Region}
use Rattle.aa_representatives.specs.Representatives.{HasExecs}
use Rattle.aa_reachability.proofs.Executing.{clean_regions_lead}
use Rattle.aa_reachability.proofs.execs.clean_region_execs.Goals as goal

pub execs_of_regions-requires : goal.execs_of_regions-requires
execs_of_regions-requires c = λ r among.
    c.in_ok-regions.ensures.regions.asked r (subst (λ (l : List Region). Contains l r) c.as_slice.ensures.value among)

pub returns-clause-lead : goal.returns-clause-lead
returns-clause-lead c =
    let rs = c.in_ok-requests.requests.items in
    let made = c.in_ok-requests.ensures in
    clean_regions_lead c.args.policies.now c.args.label c.args.unclean.now c.args.any.now c.requires.unclean c.requires.any c.in_ok-regions.regions.items
    c.in_ok-regions.ensures.regions rs
    (subst (λ (l : List Region). (r : Region) → Contains l r → HasExecs r.witness rs) c.as_slice.ensures.value made.has) made.each
