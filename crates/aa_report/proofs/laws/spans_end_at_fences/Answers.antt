use Rattle.aa_report.proofs.Fences.{spans_end_at_fences}
use Rattle.aa_report.proofs.laws.spans_end_at_fences.Goals as goal

pub returns : goal.returns
returns c = spans_end_at_fences
