use Rattle.aa_pattern.proofs.Sameness.{same_items_match}
use Rattle.aa_pattern.proofs.laws.same_items_match.Goals as goal

pub returns : goal.returns
returns c = same_items_match
