use Rattle.std.proofs.Common.{◌≡◌, ◌++◌, map, take}
use Rattle.aa_files.specs.Texts.{texts}
use Rattle.aa_diagnostics.specs.Further.{tried}
use Rattle.aa_diagnostics.proofs.further.push_tried.Given as goal

abbrev pub invariant-loop-path : goal.invariant-loop-path
invariant-loop-path l = texts l.lines.items ≡ texts l.initial.lines.items ++ map tried (texts (take l.path-index l.paths))
