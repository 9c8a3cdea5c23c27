use Rattle.aa_command.specs.Setting.{setting_of}
use Rattle.aa_command.proofs.Units.{loaded_next, unread_there}
use Rattle.aa_command.proofs.policy.load_units.Goals as goal

pub returns-in-Err-clause-first : goal.returns-in-Err-clause-first
returns-in-Err-clause-first g c = λ other.
    let s = setting_of (g.T.Tree.files c.args.tree.now) (g.T.Tree.taken c.args.tree.now) (g.T.Tree.input c.args.tree.now) c.args.settings.now in
    unread_there s c.args.paths.now c.loop-path.path-index c.path-item.result c.as_slice.result.now c.loop-path.units.items c.in-Err.fault c.loop-path-test.true c.path-item.is c.as_slice.ensures.value
    (c.in-Err.ensures.fault other) c.loop-path.invariant

pub loop-path-preserved : goal.loop-path-preserved
loop-path-preserved g c =
    let s = setting_of (g.T.Tree.files c.args.tree.now) (g.T.Tree.taken c.args.tree.now) (g.T.Tree.input c.args.tree.now) c.args.settings.now in
    loaded_next s c.args.paths.now c.loop-path.path-index c.path-item.result c.as_slice.result.now c.loop-path.units.items c.push.new.self.items
    c.in-Ok.unit c.loop-path-test.true c.path-item.is c.as_slice.ensures.value c.in_ok-push-in-Ok.ensures.items
    (record { main = c.in-Ok.ensures.main; unit_is = c.in-Ok.ensures.unit }) c.loop-path.invariant
