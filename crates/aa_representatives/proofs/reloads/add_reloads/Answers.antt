use Rattle.std.proofs.Common.{◌<◌, arith}
use Rattle.aa_representatives.proofs.Reloading.{reloads_add, reloads_more}
use Rattle.aa_representatives.proofs.reloads.add_reloads.Goals as goal

pub loop-number-preserved : goal.loop-number-preserved
loop-number-preserved c =
    let n = c.loop-number.number in
    let was = c.loop-number.requests.items in
    let now = c.push.new.self.items in
    let few : n < 65536 = omega (arith, c.loop-number-test.true, c.requires) in
    record {
      adds = reloads_add n c.args.requests.now.items was now c.reload.result c.in_ok-push.ensures.items c.reload.ensures few c.loop-number.invariant.adds;
      has = reloads_more n was now c.reload.result c.in_ok-push.ensures.items c.reload.ensures c.loop-number.invariant.has;
    }
