use Rattle.std.proofs.Common.{◌≡◌, ◌+◌, drop}
use Rattle.std.specs.List.{prefix_len}
use Rattle.aa_rules.specs.Grammar.{is_keyword_byte}
use Rattle.aa_rules.proofs.rules.keyword_of.Given as goal

abbrev pub invariant-loop-i : goal.invariant-loop-i
invariant-loop-i l = prefix_len is_keyword_byte l.text ≡ l.i + prefix_len is_keyword_byte (drop l.i l.text)
