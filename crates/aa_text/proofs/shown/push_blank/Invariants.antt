use Rattle.std.proofs.Common.{◌≡◌, ◌++◌, take, flat_map}
use Rattle.aa_text.specs.Excerpts.{blank}
use Rattle.aa_text.proofs.shown.push_blank.Given as goal

abbrev pub invariant-loop-b : goal.invariant-loop-b
invariant-loop-b l = l.out.items ≡ l.initial.out.items ++ flat_map blank (take l.b-index l.bytes)
