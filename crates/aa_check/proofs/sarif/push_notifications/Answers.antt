use Rattle.std.proofs.lemmas.Result.{on_ok_weaker}
use Rattle.aa_check.specs.Notified.{notified}
use Rattle.aa_check.proofs.Pieces.{notifications_pieces}
use Rattle.aa_check.proofs.sarif.push_notifications.Goals as goal

pub returns : goal.returns
returns c =
    on_ok_weaker c.push_list.result (notifications_pieces c.args.out.now.items c.push_key.new.out.items c.push_list.new.out.items (notified c.args.warnings.now) c.in_ok-push_key.ensures) c.push_list.ensures
