use Rattle.std.proofs.Common.{arith, ap, length, ℕ, List, Contains, ◌<◌, sym, subst}
use Rattle.std.specs.List.Sorted.{IsStrictlyIncreasing}
use Rattle.aa_auto.specs.Finals.{AreFinals, ListsFinals}
use Rattle.aa_auto.proofs.MoveLemmas.{on_ok}
use Rattle.aa_auto.proofs.NetLemmas.{net_lists}
use Rattle.aa_auto.proofs.net.Net.numbers.Goals as goal

pub numbers_at-requires : goal.numbers_at-requires
numbers_at-requires c =
    subst (λ (z : List ℕ). (n : ℕ) → Contains z n → n < length c.as_slice.result.now) (sym c.as_slice-2.ensures.value)
    (λ n h. omega (arith, c.requires.set n h, c.requires.net.count, ap length c.as_slice.ensures.value))

pub returns : goal.returns
returns c =
    on_ok c.numbers_at.result
    (λ all. net_lists c.args.self.now c.requires.net c.args.scratch.now.set.items c.numbers_at.new.numbers.items
    (subst (λ fs. (ends : List ℕ) → IsStrictlyIncreasing ends → IsStrictlyIncreasing c.args.scratch.now.set.items
    → AreFinals ends (length ends) (length fs) fs
    → ListsFinals ends c.args.scratch.now.set.items c.numbers_at.new.numbers.items) c.as_slice.ensures.value
    (subst (λ s. (ends : List ℕ) → IsStrictlyIncreasing ends → IsStrictlyIncreasing s
    → AreFinals ends (length ends) (length c.as_slice.result.now) c.as_slice.result.now
    → ListsFinals ends s c.numbers_at.new.numbers.items) c.as_slice-2.ensures.value all)))
    c.numbers_at.ensures
