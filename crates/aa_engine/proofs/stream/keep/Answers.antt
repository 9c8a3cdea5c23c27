use Rattle.std.proofs.Common.{◌≡◌, ◌∙◌, length, ◌-◌, arith, min}
use Rattle.aa_engine.proofs.Streams.{kept}
use Rattle.aa_engine.proofs.stream.keep.Goals as goal

pub returns-clause-ok : goal.returns-clause-ok
returns-clause-ok c =
    let taken : c.min-taken.result ≡ min (16777217 - length c.args.kept.now.items) (length c.args.bytes.now) = omega arith in
    c.in_ok-extend_from_slice.ensures.items ∙ kept 16777217 c.args.kept.now.items c.args.bytes.now c.min-taken.result c.requires taken
