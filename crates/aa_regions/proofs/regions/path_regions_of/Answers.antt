use Rattle.std.proofs.Common.{◌<◌, [], ◌∷◌, arith}
use Rattle.std.proofs.lemmas.List.Elements.{All-cons, All-nil}
use Rattle.aa_regions.proofs.Collecting.{are_regions}
use Rattle.aa_regions.proofs.Paths.{path_regions, ok_then}
use Rattle.aa_regions.proofs.regions.path_regions_of.Goals as goal

pub returns : goal.returns
returns c = ok_then c.path_regions_by.result c.path_regions_by.ensures (λ rs by ps a.
    path_regions ps rs.items (are_regions ps c.args.automaton.now (47 ∷ []) 1 4095 rs.items (All-cons (λ x. x < 256) 47 [] (omega arith) (All-nil (λ x. x < 256))) a by))
