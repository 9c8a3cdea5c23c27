use Rattle.std.proofs.Common.{inr, ◌∷◌}
use Rattle.std.specs.Prelude.{◌+◌}
use Rattle.aa_representatives.specs.Alike.{deciding}
use Rattle.aa_quantifiers.proofs.Standing.{places_beside}
use Rattle.aa_quantifiers.proofs.requests.execs_in.Goals as goal

pub returns-in_ok-unclean-in-Clean-clause-many_states : goal.returns-in_ok-unclean-in-Clean-clause-many_states
returns-in_ok-unclean-in-Clean-clause-many_states c = λ e.
    let p = c.in_ok-unclean-in-Clean.unclean in
    inr (
      p,
      c.in_ok-unclean-in-Clean.ensures.is,
      places_beside (p ∷ deciding c.args.policies.now c.args.label) c.args.word.now.pattern (c.args.limit + 1) c.requires.pattern
          (c.clean_execs_by_regions.ensures.many_states e),
    )
