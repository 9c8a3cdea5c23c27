use Rattle.std.proofs.Common.{◌≡◌, flat_map, option_to_list}
use Rattle.aa_files.proofs.walk.ordered.Given as goal

abbrev pub invariant-loop-index : goal.invariant-loop-index
invariant-loop-index l = l.order.items ≡ flat_map (λ o. option_to_list o.now) l.yielded
