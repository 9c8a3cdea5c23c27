use Rattle.std.proofs.Common.{List, Contains, sym, subst}
use Rattle.aa_model.specs.declared.rule.FileRule.{FileRule}
use Rattle.aa_reachability.proofs.execs.execs_of.Goals as goal

pub returns-then-are_all-clause-has : goal.returns-then-are_all-clause-has
returns-then-are_all-clause-has c = λ r among.
    c.in_ok-are_all.ensures.has c.if-are_all.true r (subst (λ (xs : List FileRule). Contains xs r) (sym c.as_slice.ensures) among)
