use Rattle.aa_assert.proofs.Unbreaking.{unbreakable_hold}
use Rattle.aa_assert.proofs.laws.unbreakable_claims_hold.Goals as goal

pub returns : goal.returns
returns c = unbreakable_hold
