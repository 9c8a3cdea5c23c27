use Rattle.std.proofs.Common.{◌≡◌, ◌+◌, ◌++◌, map, take}
use Rattle.aa_auto.proofs.joining.joined.Given as goal

abbrev pub invariant-loop-number : goal.invariant-loop-number
invariant-loop-number l = l.zs.items ≡ l.xs ++ map (λ n. l.moved + n) (take l.number-index l.ys)
