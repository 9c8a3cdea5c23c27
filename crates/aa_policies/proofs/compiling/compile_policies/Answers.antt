use Rattle.aa_policies.proofs.Rows.{refused_for}
use Rattle.aa_policies.proofs.compiling.compile_policies.Goals as goal

pub returns-in-Ok-clause-cause : goal.returns-in-Ok-clause-cause
returns-in-Ok-clause-cause c = refused_for _ _ c.args.limit c.args.texts.now c.policies_of.result c.in-Ok.ensures.gathered c.in-Ok.ensures.fit c.policies_of.ensures.cause
