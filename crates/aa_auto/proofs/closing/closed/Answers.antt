use Rattle.std.proofs.Common.{arith, length, ap}
use Rattle.aa_auto.proofs.JumpLemmas.{lists}
use Rattle.aa_auto.proofs.ClosedLemmas.{only_added, closed_by_sort}
use Rattle.aa_auto.proofs.closing.closed.Goals as goal

pub add_all-requires-clause-numbers : goal.add_all-requires-clause-numbers
add_all-requires-clause-numbers c = λ n h. omega (arith, c.requires.within n h, c.in_ok-make_room.ensures, ap length c.as_mut_slice.ensures.value)

pub add_reached-requires-clause-within : goal.add_reached-requires-clause-within
add_reached-requires-clause-within c = λ n h.
    c.requires.within n (only_added c.as_mut_slice.result.now c.add_all.new.indexes c.clear.new.self.items c.add_all.new.set.items c.args.seeds.now n c.clear.ensures.items c.in_ok-add_all.ensures h)

pub returns : goal.returns
returns c =
    closed_by_sort (lists c.args.jumps.now) c.as_mut_slice.result.now c.add_reached.new.indexes c.add_all.new.indexes c.clear.new.self.items c.args.seeds.now c.add_all.new.set.items c.add_reached.new.set.items
    c.sort_unstable.new.self.items c.clear.ensures.items c.in_ok-add_all.ensures c.in_ok-add_reached.ensures c.sort_unstable.ensures.permutation c.sort_unstable.ensures.sorted
