use Rattle.aa_undecided.specs.Answers.{placed_all}
use Rattle.aa_undecided.proofs.Files.{kept_more}
use Rattle.aa_reach.specs.Doubts.{opens}
use Rattle.aa_reach.proofs.doubts.files_opening_in.Goals as goal

pub loop-file-preserved : goal.loop-file-preserved
loop-file-preserved c =
    kept_more (opens c.args.compiled.now.profiles c.args.label) c.args.skipped.now c.loop-file.file-index c.file-item.result c.in_ok-opens.opens
    (placed_all c.loop-file.files.items) (placed_all c.push_if.new.files.items) c.loop-file-test.true c.file-item.is c.in_ok-opens.ensures
    c.in_ok-push_if.ensures
    c.loop-file.invariant
