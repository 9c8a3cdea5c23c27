use Rattle.std.proofs.Common.{Bool, inr, sym, subst}
use Rattle.std.specs.Prelude.{◌+◌}
use Rattle.aa_reachability.specs.Moves.{HavePathPlacesFor}
use Rattle.aa_reachability.proofs.execs.execs_by_regions.Goals as goal

pub returns-clause-many_states : goal.returns-clause-many_states
returns-clause-many_states c = λ e.
    subst (λ (clean : Bool). HavePathPlacesFor clean c.args.policies.now c.args.label (c.args.limit + 1)) (sym c.if-not-only_clean.false)
    (inr (c.in_ok-unclean.unclean, c.in_ok-any.any, c.in_ok-unclean.ensures.tells, c.in_ok-any.ensures, c.clean_region_execs.ensures.many_states e))
