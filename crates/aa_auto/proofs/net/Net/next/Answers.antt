use Rattle.std.proofs.Common.{ap, ◌∙◌, ◌<◌, Contains, length, sym, subst, Some, arith, ℕ, List}
use Rattle.aa_auto.specs.Closed.{IsUpward, IsClosure}
use Rattle.aa_auto.specs.Spots.{MovesFrom, AreSeeds}
use Rattle.aa_auto.proofs.MoveLemmas.{on_ok, seeds_from_moves}
use Rattle.aa_auto.proofs.JumpLemmas.{lists, length_lists}
use Rattle.aa_auto.proofs.NetLemmas.{net_upward, seeds_below, follows}
use Rattle.aa_auto.proofs.net.Net.next.Goals as goal

pub moved-requires-clause-within : goal.moved-requires-clause-within
moved-requires-clause-within c = λ n h. omega (arith, c.requires.old n h, ap length c.as_slice.ensures.value)

pub closed-requires-clause-within : goal.closed-requires-clause-within
closed-requires-clause-within c =
    let seeds : AreSeeds c.args.self.now.nodes.items (Some c.args.byte) c.args.old.now c.moved.new.seeds.items =
    seeds_from_moves c.args.self.now.nodes.items c.args.byte c.args.old.now c.moved.new.seeds.items (subst (λ z. MovesFrom z c.args.byte c.args.old.now c.moved.new.seeds.items) c.as_slice.ensures.value c.in_ok-moved.ensures) in
    subst (λ (z : List ℕ). (n : ℕ) → Contains z n → n < length c.as_slice-2.result.now) (sym c.as_slice-3.ensures.value)
    (seeds_below c.args.self.now c.requires.net (Some c.args.byte) c.args.old.now c.moved.new.seeds.items seeds
    (length c.as_slice-2.result.now) (ap length c.as_slice-2.ensures.value ∙ sym (length_lists c.args.self.now.jumps.items)))

pub closed-requires-clause-upward : goal.closed-requires-clause-upward
closed-requires-clause-upward c =
    subst (λ z. IsUpward (lists z)) (sym c.as_slice-2.ensures.value)
    (net_upward c.args.self.now c.requires.net)

pub returns : goal.returns
returns c =
    let seeds : AreSeeds c.args.self.now.nodes.items (Some c.args.byte) c.args.old.now c.moved.new.seeds.items =
    seeds_from_moves c.args.self.now.nodes.items c.args.byte c.args.old.now c.moved.new.seeds.items (subst (λ z. MovesFrom z c.args.byte c.args.old.now c.moved.new.seeds.items) c.as_slice.ensures.value c.in_ok-moved.ensures) in
    on_ok c.closed.result
    (λ closed.
    follows c.args.self.now c.requires.net (Some c.args.byte) c.args.old.now c.moved.new.seeds.items c.closed.new.set.items seeds
    (subst (λ z. IsClosure (lists z) c.moved.new.seeds.items c.closed.new.set.items) c.as_slice-2.ensures.value (subst (λ z. IsClosure (lists c.as_slice-2.result.now) z c.closed.new.set.items) c.as_slice-3.ensures.value closed)))
    c.closed.ensures
