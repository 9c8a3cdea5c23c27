use Rattle.std.proofs.Common.{rules, ◌≡◌, arith, length, take}
use Rattle.aa_pool.proofs.Opening.{opened_more, ends_of}
use Rattle.aa_pool.proofs.engine.open_all.Goals as goal

pub loop-at-preserved : goal.loop-at-preserved
loop-at-preserved g c =
    let i = c.loop-at.invariant in
    let b = c.in-Ok.ensures {u = tt} in
    let len : length c.loop-at.engine.lanes.items ≡ c.loop-at.at = omega (arith, c.loop-at.engine.lanes.ok, i.lens.0) in
    let more = opened_more c.args.machine.now c.args.starts.now c.args.capacity c.loop-at.at c.loop-at.engine.lanes.items c.loop-at.engine.owners.items
    c.loop-at.engine.servers.items c.loop-at.engine.shutters.items c.in-Ok.opened.0 c.index-starts-at.result
    i.opened c.loop-at-test.true len c.index-starts-at.is b.lane.0 b.lane.1 b.lane.2 b.lane.3 in
    record {
      opened = rw (
        c.add.ensures.lanes.0,
        c.add.ensures.owners.0,
        c.add.ensures.servers.0,
        c.add.ensures.shutters.0,
        b.ends.0,
        b.ends.1,
        b.ends.2,
      ) more;
      lens = search rules;
      rooms = search rules;
    }

pub returns-clause-ends : goal.returns-clause-ends
returns-clause-ends g c = ends_of c.args.machine.now
    (take c.loop-at.at c.args.starts.now) c.args.capacity c.loop-at.engine.lanes.items c.loop-at.engine.owners.items c.loop-at.engine.servers.items c.loop-at.engine.shutters.items c.loop-at.invariant.opened
