use Rattle.std.proofs.Common.{◌≡◌, ◌≤◌, ◌++◌, take, flat_map, vec_len, IfSome}
use Rattle.aa_files.specs.Texts.{texts}
use Rattle.aa_files.specs.Roots.{wanted_path, warning_lines}
use Rattle.aa_files.proofs.roots.push_folder.Given as goal

abbrev pub invariant-loop-name : goal.invariant-loop-name
invariant-loop-name g l = record {
  few : vec_len l.initial.roots.paths ≤ 4096 → vec_len l.roots.paths ≤ 4096;
  paths : IfSome (g.T.Tree.taken l.tree) (λ t. texts l.roots.paths.items ≡ texts l.initial.roots.paths.items ++ flat_map (wanted_path t l.base l.folder) (texts (take l.name-index l.name-items)));
  warnings : IfSome (g.T.Tree.taken l.tree) (λ t. texts l.roots.warnings.items ≡ texts l.initial.roots.warnings.items ++ flat_map (warning_lines t l.base l.folder) (texts (take l.name-index l.name-items)));
}
