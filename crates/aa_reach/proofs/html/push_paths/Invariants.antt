use Rattle.std.proofs.Common.{◌≡◌, ◌++◌, take, flat_map}
use Rattle.aa_files.specs.Texts.{texts}
use Rattle.aa_reach.specs.Html.{html_path}
use Rattle.aa_reach.proofs.html.push_paths.Given as goal

abbrev pub invariant-loop-path : goal.invariant-loop-path
invariant-loop-path l = l.out.items ≡ l.initial.out.items ++ flat_map html_path (texts (take l.path-index l.paths))
