use Rattle.std.proofs.Common.{◌≡◌, ◌≤◌, take, vec_len, IfSome}
use Rattle.aa_files.specs.Texts.{texts}
use Rattle.aa_files.specs.Roots.{root_paths, root_lines}
use Rattle.aa_files.proofs.roots.roots_of.Given as goal

abbrev pub invariant-loop-argument : goal.invariant-loop-argument
invariant-loop-argument g l = record {
  few : vec_len l.roots.paths ≤ 4096;
  paths : IfSome (g.T.Tree.files l.tree) (λ f. IfSome (g.T.Tree.taken l.tree) (λ t. texts l.roots.paths.items ≡ root_paths f t l.base (texts (take l.argument-index l.arguments))));
  warnings : IfSome (g.T.Tree.files l.tree) (λ f. IfSome (g.T.Tree.taken l.tree) (λ t. texts l.roots.warnings.items ≡ root_lines f t l.base (texts (take l.argument-index l.arguments))));
}
