use Rattle.std.proofs.Common.{◌≡◌, map, take}
use Rattle.aa_glob.proofs.vars.copies.Given as goal

abbrev pub invariant-loop-value : goal.invariant-loop-value
invariant-loop-value l = map (λ x. x.items) l.list.items ≡ map (λ x. x.now) (take l.value-index l.values)
