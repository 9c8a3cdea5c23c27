use Rattle.std.proofs.Common.{ℕ, List, ◌++◌, codes, ap, ◌∙◌}
use Rattle.std.proofs.lemmas.Result.{on_ok_weaker}
use Rattle.aa_text.specs.Visible.{all_visible}
use Rattle.aa_undecided.specs.Shown.{more_text, refused_at, files_text}
use Rattle.aa_skipped.proofs.Texts.{five}
use Rattle.aa_undecided.proofs.shown.push_files.Goals as goal

pub returns : goal.returns
unfolding files_text
returns c =
    let file = c.args.file.now in
    on_ok_weaker c.push_text-2.result (λ e. five c.args.out.now.items (codes "    could be decided by ") (all_visible file.path.items) (refused_at file.at.items file.place)
    (more_text c.args.more) (codes "\n") c.push_text.new.out.items c.push_visible.new.out.items c.push_refused_at.new.out.items c.push_more.new.out.items c.push_text-2.new.out.items
    c.in_ok-push_text.ensures (c.in_ok-push_visible.ensures ∙ ap (λ (l : List ℕ). c.push_text.new.out.items ++ all_visible l) c.as_slice.ensures.value)
    (c.in_ok-push_refused_at.ensures ∙ ap (λ (l : List ℕ). c.push_visible.new.out.items ++ refused_at l file.place) c.as_slice-2.ensures.value)
    c.in_ok-push_more.ensures e) c.push_text-2.ensures
