use Rattle.std.proofs.Common.{◌+◌, ap, sym, ◌∙◌, length, map}
use Rattle.std.specs.Prelude.{ℕ}
use Rattle.std.proofs.lemmas.List.{length-map}
use Rattle.aa_undecided.specs.Answers.{placed_data}
use Rattle.aa_diff.proofs.untold_shown.count_of.Goals as goal

pub returns : goal.returns
returns c =
    ap (λ (n : ℕ). n + length c.args.new.now) (sym (length-map c.args.old.now placed_data))
    ∙ ap (λ (n : ℕ). length (map placed_data c.args.old.now) + n) (sym (length-map c.args.new.now placed_data))
