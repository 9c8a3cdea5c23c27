use Rattle.std.proofs.Common.{Err, ℕ, ◌+◌, ap, ◌∙◌, subst}
use Rattle.aa_quantifiers.specs.Words.{HavePlaces}
use Rattle.aa_who.specs.Counts.{states_line, ManyStates}
use Rattle.aa_who.proofs.counting.first_at.Goals as goal

pub returns-in_ok-states_line-in-Err-TooManyStates-clause-sought : goal.returns-in_ok-states_line-in-Err-TooManyStates-clause-sought
returns-in_ok-states_line-in-Err-TooManyStates-clause-sought c =
    let ps = c.args.policies.now in
    let limit = c.limit_of-limit.ensures.is in
    let fault = c.in-Err-TooManyStates.is ∙ ap Err c.in-Err-TooManyStates.field-0-is in
    ManyStates
    (subst (λ (n : ℕ). HavePlaces ps c.args.label c.args.word.now (n + 1)) limit (c.first_of.ensures.many_states fault))
    (c.in_ok-states_line-in-Err-TooManyStates.ensures ∙ ap (λ (n : ℕ). states_line ps c.args.label c.args.text.now n) limit)
