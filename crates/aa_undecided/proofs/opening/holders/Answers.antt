use Rattle.aa_undecided.specs.Answers.{placed_all, may_hold_one}
use Rattle.aa_undecided.proofs.Files.{kept_more}
use Rattle.aa_undecided.proofs.opening.holders.Goals as goal

pub loop-file-preserved : goal.loop-file-preserved
loop-file-preserved c =
    kept_more may_hold_one c.args.skipped.now c.loop-file.file-index c.file-item.result c.may_hold_one.result
    (placed_all c.loop-file.files.items) (placed_all c.push_if.new.files.items) c.loop-file-test.true c.file-item.is c.may_hold_one.ensures c.in_ok-push_if.ensures c.loop-file.invariant
