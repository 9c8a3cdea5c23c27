use Rattle.aa_differences.proofs.Closed.{closed_labels}
use Rattle.aa_differences.proofs.openings.closed_labels_are_decided.Goals as goal

pub returns : goal.returns
returns c = closed_labels
