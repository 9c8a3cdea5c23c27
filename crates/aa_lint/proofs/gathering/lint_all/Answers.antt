use Rattle.std.proofs.Common.{ℕ, subst, IfOk}
use Rattle.aa_files.specs.Texts.{texts}
use Rattle.aa_lint.specs.declared.gathering.Lint.{Lint}
use Rattle.aa_lint.specs.Lint.{AreTold, lint_data}
use Rattle.aa_lint.proofs.gathering.lint_all.Goals as goal
use Rattle.aa_command.specs.Counts.{count_of}

pub returns : goal.returns
returns c =
    let d = c.args.decided in
    let except = texts c.args.except.now in
    subst (λ (limit : ℕ). IfOk c.lint_within.result (λ (l : Lint). AreTold d limit except (count_of d.policies.now) (lint_data l))) c.limit_of.ensures.is c.lint_within.ensures
