use Rattle.std.proofs.Common.{◌≡◌, ◌++◌, length}
use Rattle.aa_rule_text.specs.RuleTexts.{rule_start, words_from}
use Rattle.aa_rule_text.proofs.ruled.push_words.Given as goal

abbrev pub invariant-loop-rest : goal.invariant-loop-rest
invariant-loop-rest l = l.out.items ++ words_from l.place l.rest ≡ l.initial.out.items ++ words_from rule_start l.text

abbrev pub decreases-loop-rest : goal.decreases-loop-rest
decreases-loop-rest l = length l.rest
