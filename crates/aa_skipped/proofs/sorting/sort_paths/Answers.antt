use Rattle.aa_command.specs.Setting.{setting_of}
use Rattle.aa_skipped.proofs.Sorts.{sorted_next}
use Rattle.aa_skipped.proofs.sorting.sort_paths.Goals as goal

pub loop-path-preserved : goal.loop-path-preserved
loop-path-preserved g c =
    let s = setting_of (g.T.Tree.files c.args.tree.now) (g.T.Tree.taken c.args.tree.now) (g.T.Tree.input c.args.tree.now) c.args.settings.now in
    sorted_next s c.args.paths.now c.loop-path.path-index c.path-item.result c.as_slice.result.now c.loop-path.sorted.units.items c.put.new.sorted.units.items c.loop-path.sorted.skipped.items
    c.put.new.sorted.skipped.items c.in_ok-found.found c.loop-path-test.true c.path-item.is c.as_slice.ensures.value c.in_ok-put.ensures.units c.in_ok-put.ensures.skipped c.in_ok-found.ensures c.loop-path.invariant
