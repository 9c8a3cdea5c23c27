use Rattle.aa_representatives.specs.Askable.{IsFile}
use Rattle.aa_representatives.proofs.Adding.{adds_both, adds_keep, files_more}
use Rattle.aa_representatives.proofs.files.add_files_at.Goals as goal

pub loop-bits-preserved : goal.loop-bits-preserved
loop-bits-preserved c =
    let first = c.args.requests.now.items in
    let was = c.loop-bits.requests.items in
    let between = c.add_file.new.requests.items in
    let now = c.add_file-in-loop-bits.new.requests.items in
    let one = c.in_ok-add_file.ensures in
    let other = c.in_ok-add_file-2.ensures in
    record {
      adds = adds_both IsFile first was now c.loop-bits.invariant.adds (adds_both IsFile was between now one.adds other.adds);
      has = files_more c.args.path.now c.loop-bits.bits was between now c.loop-bits.invariant.has (adds_keep IsFile was between one.adds) (adds_keep IsFile between now other.adds) one.has other.has;
    }
