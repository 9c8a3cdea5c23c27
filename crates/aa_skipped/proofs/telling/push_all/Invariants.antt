use Rattle.std.proofs.Common.{◌≡◌, ◌++◌, take, flat_map}
use Rattle.aa_skipped.specs.Telling.{skipped_text}
use Rattle.aa_skipped.proofs.telling.push_all.Given as goal

abbrev pub invariant-loop-one : goal.invariant-loop-one
invariant-loop-one l = l.out.items ≡ l.initial.out.items ++ flat_map skipped_text (take l.one-index l.skipped)
