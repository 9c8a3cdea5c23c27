use Rattle.std.proofs.Common.{length, sym, ap, ◌∙◌}
use Rattle.aa_pool.specs.Fed.{AreAllFed}
use Rattle.aa_pool.proofs.Cuts.{all_written}
use Rattle.aa_pool.proofs.feeding.feed_by_one.Goals as goal

pub returns-clause-fed : goal.returns-clause-fed
returns-clause-fed g c =
    let fed : AreAllFed c.args.feeds.items c.feed_here-served.new.feeds = rw c.as_mut_slice.ensures.value at c.feed_here-served.ensures.fed in
    rw (all_written _ c.args.feeds.items c.feed_here-served.new.feeds (ap length (sym c.as_mut_slice.ensures.value) ∙ c.as_mut_slice.ensures.len) fed.same.len) fed
