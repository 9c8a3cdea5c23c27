use Rattle.aa_files.specs.Texts.{texts}
use Rattle.aa_command.specs.Setting.{setting_of}
use Rattle.aa_command.specs.Printed.{printed}
use Rattle.aa_skipped.proofs.Skipping.{printed_skipping}
use Rattle.aa_skipped.proofs.policy.with_read_paths.Goals as goal

pub returns : goal.returns
returns g c =
    let s = setting_of (g.T.Tree.files c.args.tree.now) (g.T.Tree.taken c.args.tree.now) (g.T.Tree.input c.args.tree.now) c.args.settings.now in
    printed_skipping s (texts c.args.paths.now) (g.U.UsePart.gives c.args.user.now)
    c.in_ok-sorted.sorted.units.items c.in_ok-sorted.sorted.skipped.items c.in_ok-parted.parted.units.items c.as_slice-2.result.now
    c.in_ok-parted.parted.skipped.items c.as_slice.result.now c.as_slice-3.result.now (printed c.in_ok-own.own) (printed c.in_ok-behind_skipped.field-0)
    c.in_ok-sorted.ensures c.in_ok-parted.ensures c.as_slice-2.ensures.value c.as_slice.ensures.value c.as_slice-3.ensures.value c.in_ok-own.ensures c.in_ok-behind_skipped.ensures
