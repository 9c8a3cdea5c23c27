use Rattle.std.proofs.Common.{◌≡◌, length}
use Rattle.aa_command.specs.Placed.{AreItsTexts}
use Rattle.aa_command.proofs.placed.PlacedUnit.new.Given as goal

abbrev pub invariant-loop-number : goal.invariant-loop-number
invariant-loop-number l = (length l.texts.items ≡ l.number) × AreItsTexts l.unit l.texts.items
