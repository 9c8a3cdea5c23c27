use Rattle.aa_files.specs.Texts.{texts}
use Rattle.aa_lint.specs.Lint.{AreTold, lint_data}
use Rattle.aa_lint.proofs.gathering.lint_within.Given as goal

abbrev pub invariant-loop-number : goal.invariant-loop-number
invariant-loop-number l = AreTold l.decided l.limit (texts l.except) l.number (lint_data l.lint)
