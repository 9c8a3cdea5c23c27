use Rattle.std.proofs.Common.{List, Contains, subst}
use Rattle.aa_regions.specs.declared.regions.Region.{Region}
use Rattle.aa_representatives.specs.Representatives.{HasFiles}
use Rattle.aa_representatives.proofs.Standing.{files_stand}
use Rattle.aa_representatives.proofs.paths.file_representatives.Goals as goal

pub returns-clause-representatives : goal.returns-clause-representatives
returns-clause-representatives c =
    let rs = c.add_files.new.requests.items in
    let has = subst (λ (l : List Region). (r : Region) → Contains l r → HasFiles r.witness 128 rs) c.as_slice.ensures.value c.in_ok-add_files.ensures.has in
    files_stand c.args.policies.now c.args.label c.in_ok-regions.regions.items c.in_ok-regions.ensures.regions rs has c.new-requests.result.items c.new-requests.ensures.items c.in_ok-add_files.ensures.adds
