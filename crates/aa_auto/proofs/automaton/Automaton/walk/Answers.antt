use Rattle.std.proofs.Common.{◌≡◌, ◌+◌, ◌*◌, ◌<◌, length, map, get_or, sym, ap, ◌∙◌, arith}
use Rattle.std.proofs.lemmas.List.{length-map}
use Rattle.aa_auto.specs.Tables.{Table}
use Rattle.aa_auto.proofs.JumpLemmas.{lists}
use Rattle.aa_auto.proofs.AutomatonLemmas.{row_on, cell_at, number_at}
use Rattle.aa_auto.proofs.automaton.Automaton.walk.Goals as goal

pub bounds-cells-at : goal.bounds-cells-at
bounds-cells-at g c =
    let f = c.self.inside in
    let t : Table = record { classes = f.classes.items; width = f.width; cells = f.cells; listed = f.listed; lists = lists f.lists.items } in
    let byte = get_or c.args.text.now c.loop-byte.byte-index 0 in
    let few : byte < 256 = omega (arith, c.type_inv.text c.loop-byte.byte-index) in
    let within = cell_at t c.loop-byte.row byte c.index.result.now c.self.invariant c.loop-byte.invariant.within few c.index.ensures in
    let same : map g.W.Width.number c.args.cells.now ≡ t.cells = c.requires ∙ ap (λ (t : Table). t.cells) (sym c.self.view_is) in
    omega (arith, within, ap length same, length-map c.args.cells.now g.W.Width.number)

pub loop-byte-preserved : goal.loop-byte-preserved
loop-byte-preserved g c =
    let f = c.self.inside in
    let t : Table = record { classes = f.classes.items; width = f.width; cells = f.cells; listed = f.listed; lists = lists f.lists.items } in
    let byte = get_or c.args.text.now c.loop-byte.byte-index 0 in
    let few : byte < 256 = omega (arith, c.type_inv.text c.loop-byte.byte-index) in
    let class = c.index.result.now in
    let at = t.width * c.loop-byte.row + class in
    let next = c.number-row.result in
    let kept = c.args.cells.now in
    let number = g.W.Width.number in
    let x = c.index-cells-at.result in
    let within = cell_at t c.loop-byte.row byte class c.self.invariant c.loop-byte.invariant.within few c.index.ensures in
    let same : map number kept ≡ t.cells = c.requires ∙ ap (λ (t : Table). t.cells) (sym c.self.view_is) in
    let lt : at < length kept = omega (arith, within, ap length same, length-map kept number) in
    let of_cell : next ≡ get_or t.cells at next =
    c.number-row.ensures ∙ number_at number kept t.cells at x same lt c.index-cells-at.is ∙ ap (get_or t.cells at) (sym c.number-row.ensures) in
    let r = row_on t c.args.text.now c.loop-byte.byte-index c.loop-byte.row class next c.self.invariant c.loop-byte-test.true few
    c.loop-byte.invariant.within c.index.ensures of_cell c.loop-byte.invariant.rest in
    record { rest = r.0; within = r.1 }
