use Rattle.std.proofs.Common.{refl}
use Rattle.std.proofs.lemmas.Result.{on_ok_weaker}
use Rattle.aa_log.proofs.command.read_report.Goals as goal

pub returns-clause-keeps : goal.returns-clause-keeps
returns-clause-keeps g c = on_ok_weaker c.read_lines.result (λ keeps. keeps c.args.said.now (refl, refl)) c.read_lines.ensures.keeps
