-- Patterns are compiled.
use Rattle.std.proofs.Common.{Vec, Global, ◌≡◌, ◌↔◌, ℕ, ◌<◌, List, All, length, get_or, arith, ap, sym, subst}
use Rattle.std.proofs.lemmas.Option.{slice_get_within}
use Rattle.aa_auto.specs.declared.merging.Merged.{Merged}
use Rattle.aa_auto.specs.declared.nodes.Node.{Node}
use Rattle.aa_auto.specs.declared.nodes.Node.TheVariants.{Start}
use Rattle.aa_auto.specs.declared.net.Net.{Net}
use Rattle.aa_auto.specs.Classes.{IsSame}
use Rattle.aa_auto.specs.Nodes.{AreSameNodes, HaveSources, head_at}
use Rattle.aa_auto.specs.Merged.{SameTexts, Tells, kept}
use Rattle.aa_auto.specs.Positions.{ArePositions}
use Rattle.aa_auto.specs.Spots.{AreJumps}
use Rattle.aa_auto.specs.Finals.{AreFinals}
use Rattle.aa_auto.specs.Nets.{IsNetOf, patterns_of, heads_of}
use Rattle.aa_pattern.specs.declared.pattern.Pattern.{Pattern}
use Rattle.aa_pattern.specs.Heads.{heads_of_patterns}
use Rattle.aa_auto.proofs.MergeLemmas.{kept_many}
use Rattle.aa_auto.proofs.JumpLemmas.{lists, tells_sources}

pub net_made : (net : Net) (m : Merged) (ends : List ℕ) → ArePositions (patterns_of net) m ends → net.nodes ≡ m.nodes → net.firsts ≡ m.firsts →
    AreJumps net.nodes.items (lists net.jumps.items) → AreFinals ends (length ends) (length net.nodes.items) net.finals.items →
    length net.nodes.items < 4294967296 → IsNetOf net
net_made net m ends are same_nodes same_firsts jumps finals few = record {
  ends = ends;
  alike = λ a b. subst (λ z. AreSameNodes z a b ↔ IsSame (patterns_of net) a b) (sym nodes) (are.same a b);
  many = omega (arith, are.whole, ap length nodes, ap length firsts);
  inside = subst (λ z. All (λ f. f < length (heads_of net)) z) (sym firsts) are.merged.merging.inside;
  met = λ n lt.
      let r = are.merged.met n lt in (
        r.0,
        omega (arith, r.1, kept_many (heads_of net) m.firsts.items, are.whole, ap length nodes),
        subst (λ z. SameTexts (head_at (heads_of net) n) (head_at (kept (heads_of net) z) r.0)) (sym firsts) r.2,
      );
  tells = λ k lt.
      subst (λ z. Tells (kept (heads_of net) z) k (get_or net.nodes.items k Start)) (sym firsts)
      (subst (λ z. Tells (kept (heads_of net) m.firsts.items) k (get_or z k Start)) (sym nodes)
      (are.merged.merging.tells k (omega (arith, lt, ap length nodes))));
  jumps = jumps;
  counted = are.count;
  rising = are.rising;
  met_ends = λ n p e. (
    omega (arith, are.within n 0 (omega (arith, slice_get_within (patterns_of net) n p e, are.count)), ap length nodes),
    subst (λ z. SameTexts (head_at (kept (heads_of net) z) (get_or ends n 0)) p.items.items) (sym firsts) (are.ended n p e),
  );
  ended = subst (λ k. AreFinals ends (length ends) k net.finals.items) (sym finals.count) finals;
  count = finals.count;
  few = few;
}
  where
    nodes : net.nodes.items ≡ m.nodes.items
    nodes = ap (λ (v : Vec Node Global). v.items) same_nodes

    firsts : net.firsts.items ≡ m.firsts.items
    firsts = ap (λ (v : Vec ℕ Global). v.items) same_firsts

pub positions_sources : (ps : List Pattern) (m : Merged) (ends : List ℕ) → ArePositions ps m ends → HaveSources m.nodes.items
positions_sources ps m ends are = tells_sources (kept (heads_of_patterns ps) m.firsts.items) m.nodes.items are.merged.merging.tells
