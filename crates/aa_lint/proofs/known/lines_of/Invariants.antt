use Rattle.std.proofs.Common.{◌≡◌, map, take}
use Rattle.aa_files.specs.Texts.{texts}
use Rattle.aa_lint.specs.Telling.{telling}
use Rattle.aa_lint.specs.Shown.{line_of}
use Rattle.aa_lint.proofs.known.lines_of.Given as goal

abbrev pub invariant-loop-told : goal.invariant-loop-told
invariant-loop-told l = texts l.lines.items ≡ map line_of (map telling (take l.told-index l.all))
