use Rattle.std.proofs.Common.{◌≡◌, ◌≤◌, length, get_or, All}
use Rattle.aa_files.specs.Texts.{slices}
use Rattle.aa_files.specs.Walks.{IsLookedUp, walked_texts}
use Rattle.aa_files.specs.WalkData.{asked, IsWalkedTo}
use Rattle.aa_files.proofs.walk.walk_text.Given as goal

abbrev pub invariant-loop-one : goal.invariant-loop-one
invariant-loop-one g l = record {
  walked : IsWalkedTo (g.T.Tree.files l.tree) (slices l.folders) l.initial.unit.path.items l.initial.unit.text.items l.number l.unit;
  within : l.number ≤ length l.unit.sources.items;
  same : get_or (walked_texts l.initial.unit.text.items l.unit.sources.items) l.number l.initial.unit.text.items ≡ get_or (walked_texts l.initial.unit.text.items l.initial.unit.sources.items) l.number l.initial.unit.text.items;
  each : All (λ w. IsLookedUp (g.T.Tree.files l.tree) l.unit.sources.items l.unit.known.entries (asked w)) l.yielded;
}
