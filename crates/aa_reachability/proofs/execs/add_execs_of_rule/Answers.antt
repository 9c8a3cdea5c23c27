use Rattle.std.proofs.Common.{List, Contains, sym, subst}
use Rattle.aa_pattern.specs.declared.pattern.Pattern.{Pattern}
use Rattle.aa_reachability.specs.Single.{HasExecsOf}
use Rattle.aa_reachability.proofs.execs.add_execs_of_rule.Goals as goal

pub returns-clause-has : goal.returns-clause-has
returns-clause-has c = λ yes how p among.
    c.in_ok-are_all.ensures.has yes p (subst (λ (xs : List Pattern). Contains xs p) (sym c.as_slice.ensures) among)
