use Rattle.std.proofs.Common.{◌≡◌, ◌++◌, map, take, flat_map}
use Rattle.aa_ask.specs.Named.{named}
use Rattle.aa_ask.specs.Shown.{decider_line}
use Rattle.aa_ask.proofs.shown.push_lines.Given as goal

abbrev pub invariant-loop-line : goal.invariant-loop-line
invariant-loop-line l = l.out.items ≡ l.initial.out.items ++ flat_map decider_line (map named (take l.line-index l.lines))
