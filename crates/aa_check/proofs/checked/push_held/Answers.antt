use Rattle.std.proofs.Common.{codes}
use Rattle.std.specs.Prelude.{decimal}
use Rattle.std.proofs.lemmas.Result.{on_ok_weaker}
use Rattle.aa_skipped.proofs.Texts.{five}
use Rattle.aa_check.specs.Printed.{untold_text, held_text}
use Rattle.aa_check.proofs.checked.push_held.Goals as goal

pub returns : goal.returns
unfolding held_text
returns c =
    on_ok_weaker c.push_text-3.result (λ e. five c.args.out.now.items (codes "refused files seem to hold ") (decimal c.args.held) (codes " profiles") (untold_text c.args.untold) (codes "\n")
    c.push_text.new.out.items c.push_number.new.out.items c.push_text-2.new.out.items c.push_untold.new.out.items c.push_text-3.new.out.items
    c.in_ok-push_text.ensures c.in_ok-push_number.ensures c.in_ok-push_text-2.ensures c.in_ok-push_untold.ensures e) c.push_text-3.ensures
