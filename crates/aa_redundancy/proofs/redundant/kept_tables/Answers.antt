use Rattle.std.proofs.Common.{length, ap}
use Rattle.aa_redundancy.proofs.Untold.{kept_alike, kept_within, alike_of, within_of}
use Rattle.aa_redundancy.proofs.redundant.kept_tables.Goals as goal

pub returns-clause-alike : goal.returns-clause-alike
returns-clause-alike c =
    let p = c.args.profile.now in
    let ns = c.args.numbers.now in
    kept_alike p ns c.in_ok-files.files c.in_ok-caps.caps c.in_ok-nets.nets c.in_ok-changes.changes
    (alike_of (length c.as_slice.result.now) (length p.files) c.as_slice-2.result.now ns.files c.in_ok-files.files
    (ap length c.as_slice.ensures) c.as_slice-2.ensures c.in_ok-files.ensures.alike)
    (alike_of (length c.as_slice-3.result.now) (length p.caps) c.as_slice-4.result.now ns.caps c.in_ok-caps.caps
    (ap length c.as_slice-3.ensures) c.as_slice-4.ensures c.in_ok-caps.ensures.alike)
    (alike_of (length c.as_slice-5.result.now) (length p.nets) c.as_slice-6.result.now ns.nets c.in_ok-nets.nets
    (ap length c.as_slice-5.ensures) c.as_slice-6.ensures c.in_ok-nets.ensures.alike)
    (alike_of (length c.as_slice-7.result.now) (length p.changes) c.as_slice-8.result.now ns.changes c.in_ok-changes.changes
    (ap length c.as_slice-7.ensures) c.as_slice-8.ensures c.in_ok-changes.ensures.alike)

pub returns-clause-within : goal.returns-clause-within
returns-clause-within c =
    let p = c.args.profile.now in
    let ns = c.args.numbers.now in
    kept_within p ns c.in_ok-files.files c.in_ok-caps.caps c.in_ok-nets.nets c.in_ok-changes.changes
    (within_of (length c.as_slice.result.now) (length p.files) c.as_slice-2.result.now ns.files c.in_ok-files.files
    (ap length c.as_slice.ensures) c.as_slice-2.ensures c.in_ok-files.ensures.within)
    (within_of (length c.as_slice-3.result.now) (length p.caps) c.as_slice-4.result.now ns.caps c.in_ok-caps.caps
    (ap length c.as_slice-3.ensures) c.as_slice-4.ensures c.in_ok-caps.ensures.within)
    (within_of (length c.as_slice-5.result.now) (length p.nets) c.as_slice-6.result.now ns.nets c.in_ok-nets.nets
    (ap length c.as_slice-5.ensures) c.as_slice-6.ensures c.in_ok-nets.ensures.within)
    (within_of (length c.as_slice-7.result.now) (length p.changes) c.as_slice-8.result.now ns.changes c.in_ok-changes.changes
    (ap length c.as_slice-7.ensures) c.as_slice-8.ensures c.in_ok-changes.ensures.within)
