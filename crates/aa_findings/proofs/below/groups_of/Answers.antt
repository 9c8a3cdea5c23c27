use Rattle.std.proofs.Common.{ap, ◌∙◌}
use Rattle.aa_findings.specs.Places.{places, has, lists}
use Rattle.aa_findings.proofs.Parents.{groups_are}
use Rattle.aa_findings.proofs.below.groups_of.Goals as goal

pub returns-clause-each : goal.returns-clause-each
returns-clause-each c = λ k lt.
    c.in_ok-groups.ensures.each k lt ∙ ap (λ vs. places (has k) (lists vs)) c.as_slice.ensures.value ∙ ap (places (has k)) c.in_ok-parents.ensures ∙ groups_are k c.args.profiles.now
