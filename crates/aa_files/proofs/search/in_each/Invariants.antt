use Rattle.std.proofs.Common.{◌≡◌, take, map}
use Rattle.aa_files.specs.Searches.{path_in}
use Rattle.aa_files.specs.Texts.{texts, slices}
use Rattle.aa_files.proofs.search.in_each.Given as goal

abbrev pub invariant-loop-folder : goal.invariant-loop-folder
invariant-loop-folder l = texts l.paths.items ≡ map (λ folder. path_in folder l.name) (slices (take l.folder-index l.folders))
