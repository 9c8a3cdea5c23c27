use Rattle.aa_undecided.specs.Answers.{placed_all}
use Rattle.aa_undecided.proofs.Files.{kept_more}
use Rattle.aa_undecided.specs.Named.{may_hold}
use Rattle.aa_undecided.proofs.named.files_holding_in.Goals as goal

pub loop-file-preserved : goal.loop-file-preserved
loop-file-preserved c =
    kept_more (may_hold c.args.compiled.now.profiles c.args.name.now) c.args.skipped.now c.loop-file.file-index c.file-item.result c.may_hold-holds.result
    (placed_all c.loop-file.files.items) (placed_all c.push_if.new.files.items) c.loop-file-test.true c.file-item.is c.may_hold-holds.ensures
    c.in_ok-push_if.ensures c.loop-file.invariant
