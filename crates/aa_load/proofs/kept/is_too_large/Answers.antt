use Rattle.std.proofs.Common.{arith, ap, length}
use Rattle.aa_load.specs.Joined.{rows_of}
use Rattle.aa_load.specs.Kept.{kept_rows}
use Rattle.aa_load.proofs.Joins.{large_by_rules}
use Rattle.aa_load.proofs.kept.is_too_large.Goals as goal

pub returns-else-is_over : goal.returns-else-is_over
returns-else-is_over c =
    large_by_rules (kept_rows c.args.kept.now) (rows_of c.args.policy.now) c.args.attachments c.len-before.result (length c.as_slice.result.now) c.as_slice-else-is_over.result.now c.is_over.result c.has_far_rule.result
    c.requires.kept.near c.requires.count (omega (arith, c.len-before.ensures, c.args.kept.now.profiles.ok)) (ap length c.as_slice.ensures) c.as_slice-else-is_over.ensures c.is_over.ensures c.if-is_over.false c.has_far_rule.ensures
