use Rattle.std.proofs.Common.{◌≡◌, ◌++◌, map, take}
use Rattle.aa_files.specs.Texts.{texts}
use Rattle.aa_redundant.specs.Told.{explaining}
use Rattle.aa_redundant.specs.Accepted.{found_line}
use Rattle.aa_redundant.proofs.accepted.push_found.Given as goal

abbrev pub invariant-loop-rule : goal.invariant-loop-rule
invariant-loop-rule l = texts l.lines.items ≡ texts l.fn.lines.items ++ map found_line (map explaining (take l.rule-index l.rules))
