use Rattle.std.proofs.Common.{◌∙◌}
use Rattle.aa_logs.proofs.Cutting.{first_end, end_within}
use Rattle.aa_logs.proofs.lines.line_len.Goals as goal

pub returns-clause-count : goal.returns-clause-count
returns-clause-count c = c.unwrap_or.ensures ∙ first_end c.args.bytes.now c.memchr.result c.memchr.ensures

pub returns-clause-within : goal.returns-clause-within
returns-clause-within c = end_within c.args.bytes.now _ (c.unwrap_or.ensures ∙ first_end c.args.bytes.now c.memchr.result c.memchr.ensures)
