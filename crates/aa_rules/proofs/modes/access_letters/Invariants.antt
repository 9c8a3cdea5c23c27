use Rattle.std.proofs.Common.{◌≡◌, ◌+◌, drop}
use Rattle.std.specs.List.{prefix_len}
use Rattle.aa_rules.specs.Modes.{is_access_letter}
use Rattle.aa_rules.proofs.modes.access_letters.Given as goal

abbrev pub invariant-loop-i : goal.invariant-loop-i
invariant-loop-i l = prefix_len is_access_letter l.text ≡ l.i + prefix_len is_access_letter (drop l.i l.text)
