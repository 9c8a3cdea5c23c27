use Rattle.std.proofs.Common.{◌≡◌, ◌+◌, drop}
use Rattle.std.specs.List.{prefix_len}
use Rattle.aa_rules.specs.Modes.{is_exec_letter}
use Rattle.aa_rules.proofs.modes.exec_letters.Given as goal

abbrev pub invariant-loop-i : goal.invariant-loop-i
invariant-loop-i l = prefix_len is_exec_letter l.text ≡ l.i + prefix_len is_exec_letter (drop l.i l.text)
