use Rattle.std.proofs.Common.{◌≡◌, map, take}
use Rattle.aa_ask.specs.Named.{named}
use Rattle.aa_assert.specs.Sarif.{rule_text}
use Rattle.aa_assert.specs.Listed.{rules_in}
use Rattle.aa_assert.proofs.sarif.rules_of.Given as goal

abbrev pub invariant-loop-line : goal.invariant-loop-line
invariant-loop-line l = rules_in l.list.items ≡ map rule_text (map named (take l.line-index l.lines))
