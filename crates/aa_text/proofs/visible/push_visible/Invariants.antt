use Rattle.std.proofs.Common.{◌≡◌, ◌++◌, take, map}
use Rattle.aa_text.specs.Visible.{visible}
use Rattle.aa_text.proofs.visible.push_visible.Given as goal

abbrev pub invariant-loop-b : goal.invariant-loop-b
invariant-loop-b l = l.out.items ≡ l.initial.out.items ++ map visible (take l.b-index l.bytes)
