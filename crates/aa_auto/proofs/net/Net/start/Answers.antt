use Rattle.std.proofs.Common.{ap, ◌∙◌, ◌<◌, Contains, length, sym, subst, None, [], ℕ, List}
use Rattle.aa_auto.specs.Closed.{IsUpward, IsClosure}
use Rattle.aa_auto.specs.Spots.{AreSeeds}
use Rattle.aa_auto.proofs.MoveLemmas.{on_ok}
use Rattle.aa_auto.proofs.JumpLemmas.{lists, length_lists}
use Rattle.aa_auto.proofs.NetLemmas.{net_upward, seeds_below, follows}
use Rattle.aa_auto.proofs.net.Net.start.Goals as goal

pub closed-requires-clause-within : goal.closed-requires-clause-within
closed-requires-clause-within c =
    let seeds : AreSeeds c.args.self.now.nodes.items None [] c.beginnings.new.new.items =
    subst (λ z. AreSeeds z None [] c.beginnings.new.new.items) c.as_slice.ensures.value c.in_ok-beginnings.ensures in
    subst (λ (z : List ℕ). (n : ℕ) → Contains z n → n < length c.as_slice-2.result.now) (sym c.as_slice-3.ensures.value)
    (seeds_below c.args.self.now c.requires None [] c.beginnings.new.new.items seeds
    (length c.as_slice-2.result.now) (ap length c.as_slice-2.ensures.value ∙ sym (length_lists c.args.self.now.jumps.items)))

pub closed-requires-clause-upward : goal.closed-requires-clause-upward
closed-requires-clause-upward c =
    subst (λ z. IsUpward (lists z)) (sym c.as_slice-2.ensures.value)
    (net_upward c.args.self.now c.requires)

pub returns : goal.returns
returns c =
    let seeds : AreSeeds c.args.self.now.nodes.items None [] c.beginnings.new.new.items =
    subst (λ z. AreSeeds z None [] c.beginnings.new.new.items) c.as_slice.ensures.value c.in_ok-beginnings.ensures in
    on_ok c.closed.result
    (λ closed.
    follows c.args.self.now c.requires None [] c.beginnings.new.new.items c.closed.new.set.items seeds
    (subst (λ z. IsClosure (lists z) c.beginnings.new.new.items c.closed.new.set.items) c.as_slice-2.ensures.value (subst (λ z. IsClosure (lists c.as_slice-2.result.now) z c.closed.new.set.items) c.as_slice-3.ensures.value closed)))
    c.closed.ensures
