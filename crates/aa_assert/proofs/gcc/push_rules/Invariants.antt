use Rattle.std.proofs.Common.{◌≡◌, ◌++◌, map, take, flat_map}
use Rattle.aa_ask.specs.Named.{named}
use Rattle.aa_assert.specs.Gcc.{gcc_rule}
use Rattle.aa_assert.proofs.gcc.push_rules.Given as goal

abbrev pub invariant-loop-line : goal.invariant-loop-line
invariant-loop-line l = l.out.items ≡ l.initial.out.items ++ flat_map gcc_rule (map named (take l.line-index l.lines))
