use Rattle.std.proofs.Common.{◌≡◌, map, take}
use Rattle.aa_changed_rules.specs.Codes.{pattern_code}
use Rattle.aa_changed_rules.specs.Forms.{lists, ascending}
use Rattle.aa_changed_rules.proofs.forms.codes_of.Given as goal

abbrev pub invariant-loop-pattern : goal.invariant-loop-pattern
invariant-loop-pattern l = lists l.codes.keys ≡ ascending (map pattern_code (take l.pattern-index l.patterns))
