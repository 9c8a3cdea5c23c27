use Rattle.std.proofs.Common.{◌+◌, sym, subst}
use Rattle.aa_quantifiers.specs.declared.word.Word.{Word}
use Rattle.aa_quantifiers.specs.Words.{HavePlaces}
use Rattle.aa_quantifiers.proofs.requests.standing_for.Goals as goal

pub returns-in-Files-clause-many_states : goal.returns-in-Files-clause-many_states
returns-in-Files-clause-many_states c = λ e.
    subst (λ (w : Word). HavePlaces c.args.policies.now c.args.label w (c.args.limit + 1)) (sym c.in-Files.is) (c.of_files.ensures.many_states e)

pub returns-in-Execs-clause-many_states : goal.returns-in-Execs-clause-many_states
returns-in-Execs-clause-many_states c = λ e.
    subst (λ (w : Word). HavePlaces c.args.policies.now c.args.label w (c.args.limit + 1)) (sym c.in-Execs.is) (c.of_execs.ensures.many_states e)
