use Rattle.std.proofs.Common.{false, sym, ap, ◌∙◌}
use Rattle.aa_assert.specs.Passages.{do_count}
use Rattle.aa_assert.proofs.Passing.{clean_first}
use Rattle.aa_assert.proofs.passage.first_through.Goals as goal

pub returns-then-do_count : goal.returns-then-do_count
returns-then-do_count c =
    clean_first c.args.policies.now c.args.limit c.args.from c.args.labels.now c.args.way.items
    (ap (do_count false) (sym c.as_slice.ensures.value) ∙ (sym c.do_count.ensures ∙ c.if-do_count.true)) c.requires.shortest
