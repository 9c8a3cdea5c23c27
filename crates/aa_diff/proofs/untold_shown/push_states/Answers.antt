use Rattle.std.proofs.Common.{codes}
use Rattle.std.specs.Prelude.{decimal}
use Rattle.std.proofs.lemmas.Result.{on_ok_weaker}
use Rattle.aa_skipped.proofs.Texts.{three}
use Rattle.aa_diff.specs.UntoldShown.{states_text}
use Rattle.aa_diff.proofs.untold_shown.push_states.Goals as goal

pub returns : goal.returns
unfolding states_text
returns c =
    on_ok_weaker c.push_text-2.result
    (λ e. three c.args.out.now.items (codes "the patterns of OLD and NEW need more than ") (decimal c.args.limit) (codes " states together")
    c.push_text.new.out.items c.push_number.new.out.items c.push_text-2.new.out.items c.in_ok-push_text.ensures c.in_ok-push_number.ensures e)
    c.push_text-2.ensures
