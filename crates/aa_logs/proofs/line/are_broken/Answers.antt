use Rattle.std.proofs.Common.{sym, ◌∙◌}
use Rattle.aa_logs.proofs.Broken.{broken_so, breaks_none, breaks_some, breaks_end}
use Rattle.aa_logs.proofs.line.are_broken.Goals as goal

pub loop-rest-init : goal.loop-rest-init
loop-rest-init c = broken_so c.args.words.now

pub returns-in_default-stamped_by : goal.returns-in_default-stamped_by
returns-in_default-stamped_by c =
    breaks_none _ c.loop-rest.is_stamped c.loop-rest.rest.now _ c.in-len1-up.len_at_least
    (sym c.in_default-stamped_by.is ∙ c.stamped_by.ensures) c.loop-rest.invariant

pub loop-rest-preserved : goal.loop-rest-preserved
loop-rest-preserved c =
    breaks_some _ c.loop-rest.is_stamped c.in-Some.stamped c.loop-rest.rest.now _ c.in-len1-up.len_at_least
    (sym c.in-Some.is ∙ c.stamped_by.ensures) c.loop-rest.invariant

pub returns : goal.returns
returns c = breaks_end c.loop-rest.is_stamped c.loop-rest.rest.now _ c.in_default.len_below c.loop-rest.invariant
