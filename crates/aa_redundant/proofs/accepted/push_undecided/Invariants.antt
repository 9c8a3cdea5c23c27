use Rattle.std.proofs.Common.{◌≡◌, ◌++◌, map, take}
use Rattle.aa_files.specs.Texts.{texts}
use Rattle.aa_redundant.specs.Told.{telling}
use Rattle.aa_redundant.specs.Shown.{line_of}
use Rattle.aa_redundant.proofs.accepted.push_undecided.Given as goal

abbrev pub invariant-loop-rule : goal.invariant-loop-rule
invariant-loop-rule l = texts l.lines.items ≡ texts l.fn.lines.items ++ map line_of (map telling (take l.rule-index l.rules))
