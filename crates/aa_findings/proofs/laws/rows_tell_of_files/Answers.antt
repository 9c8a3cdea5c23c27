use Rattle.aa_findings.proofs.Telling.{rows_tell}
use Rattle.aa_findings.proofs.laws.rows_tell_of_files.Goals as goal

pub returns : goal.returns
returns c = λ r in'. rows_tell c.args.rules.now c.args.rows.now c.requires r in'
