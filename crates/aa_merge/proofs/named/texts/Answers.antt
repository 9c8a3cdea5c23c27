use Rattle.std.proofs.Common.{refl}
use Rattle.aa_merge.specs.Reasons.{reason_names, reason_texts}
use Rattle.aa_merge.proofs.named.texts.Goals as goal

pub returns-clause-entries : goal.returns-clause-entries
unfolding reason_texts
returns-clause-entries c = refl

pub returns-clause-printed : goal.returns-clause-printed
unfolding reason_names reason_texts
returns-clause-printed c = refl
