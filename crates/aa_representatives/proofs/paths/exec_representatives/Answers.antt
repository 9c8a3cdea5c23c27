use Rattle.std.proofs.Common.{List, Contains, subst}
use Rattle.aa_regions.specs.declared.regions.Region.{Region}
use Rattle.aa_representatives.specs.Representatives.{HasExecs}
use Rattle.aa_representatives.proofs.Standing.{execs_stand}
use Rattle.aa_representatives.proofs.paths.exec_representatives.Goals as goal

pub returns-clause-representatives : goal.returns-clause-representatives
returns-clause-representatives c =
    let rs = c.add_execs.new.requests.items in
    let has = subst (λ (l : List Region). (r : Region) → Contains l r → HasExecs r.witness rs) c.as_slice.ensures.value c.in_ok-add_execs.ensures.has in
    execs_stand c.args.policies.now c.args.label c.in_ok-regions.regions.items c.in_ok-regions.ensures.regions rs has c.new-requests.result.items c.new-requests.ensures.items c.in_ok-add_execs.ensures.adds
