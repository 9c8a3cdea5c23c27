use Rattle.std.proofs.Common.{option_map}
use Rattle.aa_undecided.specs.Answers.{placed_all, may_be_called}
use Rattle.aa_undecided.proofs.Files.{kept_more}
use Rattle.aa_undecided.proofs.opening.files_called.Goals as goal

pub loop-file-preserved : goal.loop-file-preserved
loop-file-preserved c =
    kept_more (may_be_called c.args.compiled.now.profiles c.args.name.now (option_map (λ n. n.items) c.args.digits.now)) c.args.skipped.now
    c.loop-file.file-index c.file-item.result c.may_be_called-may.result
    (placed_all c.loop-file.files.items) (placed_all c.push_if.new.files.items) c.loop-file-test.true c.file-item.is c.may_be_called-may.ensures c.in_ok-push_if.ensures c.loop-file.invariant
