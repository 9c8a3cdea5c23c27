use Rattle.std.proofs.Common.{arith}
use Rattle.aa_pool.proofs.Rows.{fed_on}
use Rattle.aa_pool.proofs.feeding.fed_after.Goals as goal

pub feed_by_one-requires-clause-len : goal.feed_by_one-requires-clause-len
feed_by_one-requires-clause-len g c = omega (arith, c.unshare.ensures.len, c.unshare.result.ok, c.requires.len)

pub returns-in-Err-clause-fed : goal.returns-in-Err-clause-fed
returns-in-Err-clause-fed g c = fed_on g.C.Course.lanes c.unshare.result.items c.feed_by_one.result.0.items c.unshare.ensures c.feed_by_one.ensures.fed
