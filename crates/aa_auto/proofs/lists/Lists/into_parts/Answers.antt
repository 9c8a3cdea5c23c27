use Rattle.std.proofs.Common.{◌∙◌}
use Rattle.aa_auto.proofs.ListedLemmas.{moved_on}
use Rattle.aa_auto.proofs.lists.Lists.into_parts.Goals as goal

pub loop-list-preserved : goal.loop-list-preserved
loop-list-preserved c =
    moved_on c.loop-list.lists.items c.push.new.self.items c.loop-list.list-iterator c.next.new.self c.in-Some.list c.shrink_to_fit.new.self c.in_ok-push.ensures.items c.shrink_to_fit.ensures.items c.in-Some.ensures.steps
    ∙ c.loop-list.invariant
