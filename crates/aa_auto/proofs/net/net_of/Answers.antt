use Rattle.std.proofs.Common.{◌≡◌, ◌<◌, ◌∙◌, All, Vec, Global, ℕ, List, arith, ap, length, sym, subst}
use Rattle.std.specs.Borrow.{Bor}
use Rattle.std.specs.List.Sorted.{IsStrictlyIncreasing}
use Rattle.std.proofs.lemmas.List.{length-map}
use Rattle.aa_pattern.specs.declared.pattern.Pattern.{Pattern}
use Rattle.aa_auto.specs.declared.nodes.Node.{Node}
use Rattle.aa_auto.specs.Nodes.{HaveSources, pointed}
use Rattle.aa_auto.specs.Spots.{AreJumps}
use Rattle.aa_auto.specs.Finals.{AreFinals}
use Rattle.aa_auto.proofs.JumpLemmas.{lists}
use Rattle.aa_auto.proofs.NetParts.{net_made, positions_sources}
use Rattle.aa_auto.proofs.net.net_of.Goals as goal

pub links_of-requires-clause-sources : goal.links_of-requires-clause-sources
links_of-requires-clause-sources c =
    let all : HaveSources c.in_ok-all.all.nodes.items = positions_sources
    (pointed c.args.patterns.now) c.in_ok-all.all c.in_ok-all.ends.items c.in_ok-all.ensures in
    subst HaveSources (sym (c.as_slice.ensures.value ∙ ap (λ (v : Vec Node Global). v.items) c.into_parts-nodes.ensures.nodes)) all

pub links_of-requires-clause-rising : goal.links_of-requires-clause-rising
links_of-requires-clause-rising c = subst IsStrictlyIncreasing (sym c.as_slice-2.ensures.value) c.in_ok-all.ensures.rising

pub links_of-requires-clause-within : goal.links_of-requires-clause-within
links_of-requires-clause-within c =
    let e : length c.as_slice.result.now ≡ length c.in_ok-all.all.nodes.items = ap length
    (c.as_slice.ensures.value ∙ ap (λ (v : Vec Node Global). v.items) c.into_parts-nodes.ensures.nodes) in
    subst (λ (z : List ℕ). All (λ e. e < length c.as_slice.result.now) z) (sym c.as_slice-2.ensures.value)
    (subst (λ n. All (λ e. e < n) c.in_ok-all.ends.items) (sym e) c.in_ok-all.ensures.within)

pub links_of-requires-clause-few : goal.links_of-requires-clause-few
links_of-requires-clause-few c =
    omega (arith, c.requires, ap length c.as_slice-2.ensures.value, c.in_ok-all.ensures.count, length-map c.args.patterns.now (λ (q : Bor Pattern). q.now))

pub returns-clause-net : goal.returns-clause-net
returns-clause-net c =
    let r = c.in_ok-jumps.ensures in
    let finals = subst (λ (z : List ℕ). AreFinals z (length z) (length c.into_parts-nodes.result.0.items) c.in_ok-jumps.finals.items)
    c.as_slice-2.ensures.value
    (subst (λ z. AreFinals c.as_slice-2.result.now (length c.as_slice-2.result.now) (length z) c.in_ok-jumps.finals.items) c.as_slice.ensures.value r.finals)
    in
    net_made _ c.in_ok-all.all c.in_ok-all.ends.items c.in_ok-all.ensures c.into_parts-nodes.ensures.nodes c.into_parts-nodes.ensures.firsts
    (subst (λ z. AreJumps z (lists c.in_ok-jumps.jumps.items)) c.as_slice.ensures.value r.jumps) finals
    (subst (λ z. length z < 4294967296) c.as_slice.ensures.value r.many)
