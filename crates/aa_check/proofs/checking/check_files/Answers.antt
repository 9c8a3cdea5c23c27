use Rattle.std.proofs.lemmas.Grind.{common_steps}
use Rattle.std.proofs.Common.{subst, take, [], arith}
use Rattle.aa_files.specs.Texts.{texts}
use Rattle.aa_command.specs.Setting.{setting_of}
use Rattle.aa_check.specs.Checked.{AreFound}
use Rattle.aa_check.proofs.Found.{next_path}
use Rattle.aa_check.proofs.checking.check_files.Goals as goal

pub loop-path-preserved : goal.loop-path-preserved
loop-path-preserved g c =
    let s = setting_of (g.T.Tree.files c.args.tree.now) (g.T.Tree.taken c.args.tree.now) (g.T.Tree.input c.args.tree.now) c.args.settings.now in
    let next = next_path c.args.paths.now c.loop-path.path-index c.path-item.result c.as_slice-path.result.now c.loop-path-test.true c.path-item.is c.as_slice-path.ensures.value in
    record {
      found = subst (λ l. AreFound s [] l c.check_next.new.files.items) next (c.in_ok-check_next.ensures.found (texts (take c.loop-path.path-index c.args.paths.now)) c.loop-path.invariant.found);
      first = c.in_ok-check_next.ensures.first;
    }

pub returns : goal.returns
returns g c = grind (arith, common_steps)
