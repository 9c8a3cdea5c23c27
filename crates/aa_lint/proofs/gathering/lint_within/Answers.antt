use Rattle.std.proofs.Common.{ℕ, sym, subst, add-one}
use Rattle.aa_files.specs.Texts.{texts}
use Rattle.aa_lint.specs.Lint.{AreTold, lint_data}
use Rattle.aa_lint.proofs.gathering.lint_within.Goals as goal

pub loop-number-preserved : goal.loop-number-preserved
loop-number-preserved c =
    let except = texts c.args.except.now in
    subst (λ (k : ℕ). AreTold c.args.decided c.args.limit except k (lint_data c.push_lint_at.new.lint)) (sym (add-one c.loop-number.number))
    (lint_data c.loop-number.lint, c.loop-number.invariant, c.in_ok-push_lint_at.ensures)
