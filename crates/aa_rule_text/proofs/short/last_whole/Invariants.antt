use Rattle.std.proofs.Common.{◌≡◌}
use Rattle.aa_text.specs.Excerpts.{character_end}
use Rattle.aa_rule_text.proofs.short.last_whole.Given as goal

abbrev pub invariant-loop-end : goal.invariant-loop-end
invariant-loop-end l = character_end l.text l.at ≡ character_end l.text l.end

abbrev pub decreases-loop-end : goal.decreases-loop-end
decreases-loop-end l = l.end
