use Rattle.std.proofs.Common.{[], ◌∷◌}
use Rattle.aa_policy.proofs.expansion.push_file_rule.Goals as goal

pub returns-in_ok-push_rule-in-File-clause-rule : goal.returns-in_ok-push_rule-in-File-clause-rule
returns-in_ok-push_rule-in-File-clause-rule c =
    let made = c.in_ok-file_rule-in-File in
    (made.field-0 ∷ [], rw (c.in-File.is) (made.ensures.rule, tt), λ spelled k. c.in_ok-push_rule-in-File.ensures spelled k)
