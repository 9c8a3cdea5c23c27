use Rattle.std.proofs.Common.{take}
use Rattle.aa_assert.specs.Stating.{AreStated}
use Rattle.aa_assert.proofs.stating.all_stated.Given as goal

abbrev pub invariant-loop-line : goal.invariant-loop-line
invariant-loop-line l = AreStated l.part (take l.line-index l.claims) l.list.items
