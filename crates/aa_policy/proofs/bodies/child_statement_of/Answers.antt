use Rattle.aa_policy.proofs.Profiles.{statement_or_profile}
use Rattle.aa_policy.proofs.bodies.child_statement_of.Goals as goal

pub returns-then-begins_profile-clause-refused : goal.returns-then-begins_profile-clause-refused
returns-then-begins_profile-clause-refused c = λ s rest a. statement_or_profile _ c.if-begins_profile.ensures.yes s rest a
