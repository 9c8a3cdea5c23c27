use Rattle.std.proofs.Common.{◌≡◌, List, true, Contains, subst}
use Rattle.aa_pattern.specs.Matching.{is_match}
use Rattle.aa_regions.specs.declared.regions.Region.{Region}
use Rattle.aa_quantifiers.specs.Candidates.{HasExecsOf}
use Rattle.aa_quantifiers.proofs.Standing.{execs_stand}
use Rattle.aa_quantifiers.proofs.requests.execs_by_regions.Goals as goal

pub execs_of-requires : goal.execs_of-requires
execs_of-requires c = λ r d. c.in_ok-regions.ensures.regions.asked r (subst (λ (l : List Region). Contains l r) c.as_slice.ensures.value d)

pub returns-clause-stand : goal.returns-clause-stand
returns-clause-stand c =
    let w = c.args.word.now in
    let rs = c.in_ok-requests.requests.items in
    let has = subst (λ (l : List Region). (r : Region) → Contains l r → is_match w.pattern.items.items r.witness ≡ true
    → HasExecsOf w.whose r.witness rs) c.as_slice.ensures.value c.in_ok-requests.ensures.has in
    execs_stand c.args.policies.now c.args.label c.in_ok-regions.regions.items rs w has c.in_ok-requests.ensures.each c.in_ok-regions.ensures.regions
