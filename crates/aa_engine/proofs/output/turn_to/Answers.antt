use Rattle.std.proofs.Common.{◌++◌, List, ℕ, codes, refl, ap, ◌∙◌}
use Rattle.aa_engine.proofs.Writing.{ends_alike}
use Rattle.aa_engine.proofs.output.turn_to.Goals as goal

pub returns-then-say_the_same-clause-turned : goal.returns-then-say_the_same-clause-turned
returns-then-say_the_same-clause-turned c =
    let same = c.if-say_the_same.ensures refl in
    c.requires ∙ ap (λ (x : List ℕ). x ++ codes "\n") (ends_alike c.args.several c.args.policies.now c.args.end.now.answer c.args.answer.now same)
