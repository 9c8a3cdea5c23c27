use Rattle.aa_rules.proofs.FileRules.{no_mode_first}
use Rattle.aa_rules.proofs.file_rules.mode_first.Goals as goal

pub returns-in_default-clause-missing : goal.returns-in_default-clause-missing
returns-in_default-clause-missing c = λ e rest a. c.in_default.ensures.missing e.mode a.0 a.1

pub returns-in_default-path_at-clause-missing : goal.returns-in_default-path_at-clause-missing
returns-in_default-path_at-clause-missing c = no_mode_first _ _ _ _ c.in-Some.ensures.found c.in_default-path_at.ensures.missing
