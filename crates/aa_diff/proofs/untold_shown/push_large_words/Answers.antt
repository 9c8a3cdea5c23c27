use Rattle.std.proofs.Common.{codes}
use Rattle.std.proofs.lemmas.Result.{on_ok_weaker}
use Rattle.aa_skipped.proofs.Texts.{three}
use Rattle.aa_diff.specs.Untold.{large}
use Rattle.aa_diff.specs.UntoldShown.{about_text, excess_text, large_words}
use Rattle.aa_diff.proofs.untold_shown.push_large_words.Goals as goal

pub returns : goal.returns
unfolding large_words
returns c =
    on_ok_weaker c.push_excess.result
    (λ e. three c.args.out.now.items (about_text (large c.args.one.now).who) (codes " not compared: ") (excess_text c.args.one.now.why c.args.one.now.limit)
    c.push_about.new.out.items c.push_text.new.out.items c.push_excess.new.out.items c.in_ok-push_about.ensures c.in_ok-push_text.ensures e)
    c.push_excess.ensures
