use Rattle.std.proofs.Common.{◌+◌, ap, ◌∙◌, take, drop}
use Rattle.std.specs.Prelude.{count_by}
use Rattle.aa_text.specs.Places.{is_line_end}
use Rattle.aa_check.proofs.Counted.{split_counts}
use Rattle.aa_check.proofs.lines.line_ends_between.Goals as goal

pub returns : goal.returns
returns c =
    ap (λ n. count_by is_line_end (take c.args.from c.args.text.now) + n) (c.line_ends.ensures.count ∙ ap (count_by is_line_end) (c.behind.ensures ∙ ap (drop c.args.from) c.before-2.ensures))
    ∙ split_counts is_line_end c.args.text.now c.args.from c.args.to c.requires
