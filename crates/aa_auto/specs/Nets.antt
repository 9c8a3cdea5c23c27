-- What patterns are compiled to.
use Rattle.std.specs.Prelude.{◌≡◌, ℕ, ◌<◌, ◌↔◌, Some, List, All, length, map, slice_get, slice_index_or}
use Rattle.std.specs.List.Sorted.{IsStrictlyIncreasing}
use Rattle.aa_pattern.specs.declared.item.Item.{Item}
use Rattle.aa_pattern.specs.declared.pattern.Pattern.{Pattern}
use Rattle.aa_pattern.specs.Heads.{heads_of_patterns}
use Rattle.aa_auto.specs.declared.nodes.Node.TheVariants.{Start}
use Rattle.aa_auto.specs.declared.net.Net.{Net}
use Rattle.aa_auto.specs.Classes.{IsSame}
use Rattle.aa_auto.specs.Nodes.{AreSameNodes, head_at, pointed}
use Rattle.aa_auto.specs.Merged.{SameTexts, Tells, kept}
use Rattle.aa_auto.specs.Spots.{AreJumps}
use Rattle.aa_auto.specs.Finals.{AreFinals}

-- the patterns of a net
abbrev pub patterns_of : Net → List Pattern
patterns_of net = pointed net.patterns.now

-- the heads of all positions of its patterns
abbrev pub heads_of : Net → List (List Item)
heads_of net = heads_of_patterns (patterns_of net)

-- the heads of its positions
abbrev pub kept_of : Net → List (List Item)
kept_of net = kept (heads_of net) net.firsts.items

-- each head of the patterns matches the texts of some position's; a node and a row of jumps for each, and where the patterns end
pub record IsNetOf (net : Net) : Type 0 where
  pub ends : List ℕ
  pub alike : (a b : ℕ) → AreSameNodes net.nodes.items a b ↔ IsSame (patterns_of net) a b
  pub many : length net.firsts.items ≡ length net.nodes.items
  pub inside : All (λ f. f < length (heads_of net)) net.firsts.items
  pub met : (n : ℕ) → n < length (heads_of net) → (m : ℕ) × (m < length net.nodes.items) × SameTexts (head_at (heads_of net) n) (head_at (kept_of net) m)
  pub tells : (m : ℕ) → m < length net.nodes.items → Tells (kept_of net) m (slice_index_or net.nodes.items m Start)
  pub jumps : AreJumps net.nodes.items (map (λ v. v.items) net.jumps.items)
  pub counted : length ends ≡ length (patterns_of net)
  pub rising : IsStrictlyIncreasing ends
  pub met_ends : (n : ℕ) (p : Pattern) → slice_get (patterns_of net) n ≡ Some p →
      (slice_index_or ends n 0 < length net.nodes.items) × SameTexts (head_at (kept_of net) (slice_index_or ends n 0)) p.items.items
  pub ended : AreFinals ends (length ends) (length net.finals.items) net.finals.items
  pub count : length net.finals.items ≡ length net.nodes.items
  pub few : length net.nodes.items < 4294967296
