use Rattle.std.proofs.Common.{◌≡◌, ◌<◌, drop, map, length}
use Rattle.aa_auto.specs.Tables.{row_after}
use Rattle.aa_auto.proofs.automaton.Automaton.walk.Given as goal

abbrev pub invariant-loop-byte : goal.invariant-loop-byte
invariant-loop-byte g l = record {
  rest : row_after
      (record {
        classes = l.self-inside.classes.items;
        width = l.self-inside.width;
        cells = l.self-inside.cells;
        listed = l.self-inside.listed;
        lists = map (λ v. v.items) l.self-inside.lists.items;
      }) l.row (drop l.byte-index l.text)
      ≡ row_after (record { classes = l.self-inside.classes.items; width = l.self-inside.width; cells = l.self-inside.cells; listed = l.self-inside.listed; lists = map (λ v. v.items) l.self-inside.lists.items }) 0 l.text;
  within : l.row < length l.self-inside.listed;
}
