use Rattle.std.proofs.Common.{ℕ, List, ◌++◌, codes, ap, ◌∙◌}
use Rattle.std.proofs.lemmas.Result.{on_ok_weaker}
use Rattle.aa_logs.specs.Answers.{then_name}
use Rattle.aa_skipped.proofs.Texts.{two}
use Rattle.aa_against.specs.Texts.{open_arrow}
use Rattle.aa_against.proofs.printing.push_arrow.Goals as goal

pub returns : goal.returns
unfolding open_arrow
returns c =
    on_ok_weaker c.push_text-2.result (λ e. two c.args.out.now.items (then_name c.args.then) (codes " -> UNDECIDED") c.push_text.new.out.items c.push_text-2.new.out.items
    (c.in_ok-push_text.ensures ∙ ap (λ (l : List ℕ). c.args.out.now.items ++ l) c.then_name.ensures) e) c.push_text-2.ensures
