use Rattle.aa_page.proofs.Escaping.{texts_end_at_marks}
use Rattle.aa_page.proofs.laws.texts_end_at_marks.Goals as goal

pub returns : goal.returns
returns c = texts_end_at_marks
