use Rattle.aa_rules.proofs.FileRules.{no_either, if_none}
use Rattle.aa_rules.proofs.file_rules.pair_of.Goals as goal

pub returns-clause-missing : goal.returns-clause-missing
returns-clause-missing c = if_none c.mode_first.result (no_either c.in_default.ensures.missing) c.mode_first.ensures.missing
