use Rattle.aa_rules.proofs.FileRules.{no_path_first}
use Rattle.aa_rules.proofs.file_rules.path_first.Goals as goal

pub returns-in_default-clause-missing : goal.returns-in_default-clause-missing
returns-in_default-clause-missing c = no_path_first _ _ _ _ c.in_ok-path.ensures.found c.in_default.ensures.missing
