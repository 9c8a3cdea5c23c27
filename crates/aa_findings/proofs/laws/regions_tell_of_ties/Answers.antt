use Rattle.aa_findings.proofs.Tying.{tie_told}
use Rattle.aa_findings.proofs.laws.regions_tell_of_ties.Goals as goal

pub returns : goal.returns
returns c = λ n. tie_told c.args.profiles.now c.args.group.now c.args.regions.now c.requires n
