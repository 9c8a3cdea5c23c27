use Rattle.std.proofs.Common.{sym, ◌∙◌}
use Rattle.aa_base.proofs.Shown.{shown_is_text}
use Rattle.aa_base.proofs.values.plain_text.Goals as goal

pub unreachable-requires : goal.unreachable-requires
unreachable-requires c = c.in-Err.ensures.cases.0 (shown_is_text c.args.bytes.now (sym c.is_plain.ensures ∙ c.if-not-is_plain.false))
