use Rattle.aa_reachability.proofs.Executing.{execs_lead_some}
use Rattle.aa_reachability.proofs.execs.few_execs.Goals as goal

pub returns-clause-lead : goal.returns-clause-lead
returns-clause-lead c =
    execs_lead_some c.args.policies.now c.args.label c.in-Some.profile.now c.in-Some.ensures.at c.in_ok-execs.execs c.in_ok-execs.ensures.each
    c.in_ok-execs.ensures.has
