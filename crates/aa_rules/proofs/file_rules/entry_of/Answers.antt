use Rattle.std.proofs.Common.{codes, rules}
use Rattle.aa_rules.specs.FileRules.{IsLeftOut}
use Rattle.aa_rules.specs.Phrases.{Optional}
use Rattle.aa_rules.specs.Reading.{rest_of}
use Rattle.aa_rules.proofs.FileRules.{no_either, no_named, none_left_out}
use Rattle.aa_rules.proofs.file_rules.entry_of.Goals as goal

pub returns-in_default-pair_of-clause-missing : goal.returns-in_default-pair_of-clause-missing
returns-in_default-pair_of-clause-missing c =
    let read : Optional (codes "file") (rest_of c.args.words.now c.args.at) c.optional-bare.result.0 (rest_of c.args.words.now c.optional-bare.result.1) = search rules in
    no_either c.in_default.ensures.missing (no_named _ _ _ _ read c.in_default-pair_of.ensures.missing)

pub returns-then-is_left_out_at-clause-missing : goal.returns-then-is_left_out_at-clause-missing
returns-then-is_left_out_at-clause-missing c =
    let yes : IsLeftOut (rest_of c.args.words.now c.args.at) = search rules in
    no_either c.in_default.ensures.missing (none_left_out _ _ yes)
