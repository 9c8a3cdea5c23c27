use Rattle.std.proofs.Common.{◌≡◌, ◌∙◌, length, ◌-◌, arith, min}
use Rattle.aa_logs.proofs.Cutting.{kept_with}
use Rattle.aa_logs.proofs.lines.keep.Goals as goal

pub returns-clause-ok : goal.returns-clause-ok
returns-clause-ok c =
    let taken : c.min-taken.result ≡ min (65537 - length c.args.line.now.items) (length c.args.bytes.now) = omega arith in
    c.in_ok-extend_from_slice.ensures.items ∙ kept_with c.args.line.now.items c.args.bytes.now c.min-taken.result c.requires taken
