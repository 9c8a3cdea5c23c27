use Rattle.std.proofs.Common.{◌≡◌, [], ◌∷◌, ◌++◌, length, ap, arith, append_assoc, length-append}
use Rattle.aa_pool.proofs.Answering.{accepted}
use Rattle.aa_pool.proofs.feed.send.Goals as goal

pub returns-in-Ok-clause-fed : goal.returns-in-Ok-clause-fed
returns-in-Ok-clause-fed g c =
    let s = c.in-Ok.ensures {u = tt} in
    accepted g.M.Machine.next g.M.Machine.reply c.args.lane.now c.args.owner.now c.send.new.self c.args.answered.now.items c.args.request c.requires.fed s.accepted.2 s.collected

pub returns-in-Ok-clause-sent : goal.returns-in-Ok-clause-sent
returns-in-Ok-clause-sent g c =
    let s = c.in-Ok.ensures {u = tt} in
    let sent : c.send.new.self.sent ≡ c.args.owner.now.sent ++ c.args.request ∷ [] = ap (λ o. o.sent) s.accepted.2 in
    omega (arith, s.accepted.1, ap length sent, length-append c.args.owner.now.sent (c.args.request ∷ []))

pub returns-in-Ok-clause-all : goal.returns-in-Ok-clause-all
returns-in-Ok-clause-all g c =
    let s = c.in-Ok.ensures {u = tt} in
    let sent : c.send.new.self.sent ≡ c.args.owner.now.sent ++ c.args.request ∷ [] = ap (λ o. o.sent) s.accepted.2 in
    rw (sent, append_assoc)
