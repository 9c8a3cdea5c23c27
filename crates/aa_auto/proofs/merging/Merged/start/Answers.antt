use Rattle.std.proofs.Common.{arith, subst}
use Rattle.aa_auto.specs.Merged.{HasStart}
use Rattle.aa_auto.proofs.MergeLemmas.{start_there, start_added}
use Rattle.aa_auto.proofs.merging.Merged.start.Goals as goal

pub returns-then-has_start : goal.returns-then-has_start
returns-then-has_start c =
    start_there c.args.self.now c.count.new.self c.requires.whole c.in_ok-count.ensures
    (subst HasStart c.as_slice.ensures.value (c.has_start.ensures c.if-has_start.true))

pub returns : goal.returns
returns c =
    start_added c.args.self.now c.count.new.self c.push.new.self c.len-new.result c.requires.whole c.in_ok-count.ensures
    (omega (arith, c.len-new.ensures, c.count.new.self.nodes.ok)) c.in_ok-push.ensures
