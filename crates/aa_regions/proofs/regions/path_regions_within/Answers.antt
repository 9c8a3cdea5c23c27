use Rattle.aa_regions.proofs.Paths.{within_paths, ok_then}
use Rattle.aa_regions.proofs.regions.path_regions_within.Goals as goal

pub returns : goal.returns
returns c = ok_then c.path_regions_by.result c.path_regions_by.ensures (λ rs by ps q n. within_paths ps q c.args.automaton.now rs.items n by)
