use Rattle.aa_assert.proofs.Enforcing.{enforced_verdicts}
use Rattle.aa_assert.proofs.Clearing.{claims_enforced, ways_enforced}
use Rattle.aa_assert.proofs.laws.verdicts_are_enforced.Goals as goal

pub returns : goal.returns
returns c = record { verdicts = enforced_verdicts; claims = claims_enforced; ways = ways_enforced }
