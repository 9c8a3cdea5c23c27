use Rattle.std.proofs.Common.{◌≡◌, length, sym, ap, ◌∙◌, arith}
use Rattle.aa_pool.proofs.Closing.{through}
use Rattle.aa_pool.proofs.close.close.Goals as goal

pub returns-clause-closed : goal.returns-clause-closed
returns-clause-closed g c =
    let order = c.close-totals.ensures in
    let totals = c.close-totals.result in
    let has = c.args.finished.all in
    let collected : c.close-totals.result.collected ≡ c.close-totals.result.accepted = order.shown.collected ∙ sym order.shown.got ∙ has.got ∙ ap length order.shown.sent ∙ sym order.shown.accepted in
    record {
      ends = record { owner = c.args.finished.leaver; server = c.args.server; shutter = c.args.shutter };
      order = order;
      sent = through g.M.Machine.next g.M.Machine.reply c.args.lane (record { owner = c.args.finished.leaver; server = c.args.server; shutter = c.args.shutter }) totals c.args.finished.answers.items order has c.requires.shutter;
      all = (omega (arith, collected, order.shown.within.0, order.shown.within.1), collected);
      alone = c.requires.shutter;
    }
