use Rattle.std.proofs.Common.{◌≡◌, ap, length, arith}
use Rattle.aa_pool.proofs.Answering.{has_left}
use Rattle.aa_pool.proofs.feed.leave.Goals as goal

pub returns-then-len-sent : goal.returns-then-len-sent
returns-then-len-sent g c =
    let n : length c.args.answered.now.items ≡ length c.args.owner.sent = omega (arith, c.args.answered.now.ok, c.len.ensures, c.if-len-sent.true, c.requires.sent) in (
      has_left g.M.Machine.next g.M.Machine.reply c.args.lane.now c.args.owner c.exit.result c.args.answered.now.items c.args.left.now.items c.requires.fed n
          (c.requires.all (omega (arith, c.len.ensures, c.if-len-sent.true))) c.exit.ensures.left,
      ap (λ o. o.sent) c.exit.ensures.left,
    )
