use Rattle.aa_skipped.proofs.Parting.{parted_by}
use Rattle.aa_skipped.proofs.repeated.part_repeated.Goals as goal

pub returns : goal.returns
returns c =
    parted_by c.args.sorted.units.items c.as_slice.result.now c.in_ok-parted.parted.units.items c.args.sorted.skipped.items c.as_slice-3.result.now
    c.in_ok-parted.parted.skipped.items c.append.new.self.items c.in_ok-read.read.items c.as_slice-2.result.now
    c.as_slice.ensures.value c.as_slice-2.ensures.value c.as_slice-3.ensures.value c.in_ok-append.ensures.items c.in_ok-read.ensures c.in_ok-parted.ensures
