use Rattle.std.proofs.Common.{◌+◌, refl, sym, ◌∙◌, rules}
use Rattle.aa_words.specs.Splits.{word_data}
use Rattle.aa_rules.specs.Phrases.{LacksAll, is_path_kind}
use Rattle.aa_rules.specs.Reading.{rest_of}
use Rattle.aa_rules.specs.RuleFaults.{WrongMode, BehindPath, Neither, BehindMode}
use Rattle.aa_rules.proofs.WrongModes.{behind_path, behind_mode, right_mode, value_there}
use Rattle.aa_rules.proofs.faults.behind_file_fault.Goals as goal

pub wrong_mode_fault-requires : goal.wrong_mode_fault-requires
wrong_mode_fault-requires c =
    let path = value_there _ c.path_at.result c.path_at.ensures.found (sym c.is_some.ensures ∙ c.if-is_some.true) in
    record { wrong = behind_path _ _ _ _ path.1 c.requires.wrong }

pub returns-then-is_some-clause-fails : goal.returns-then-is_some-clause-fails
returns-then-is_some-clause-fails c =
    let path = value_there _ c.path_at.result c.path_at.ensures.found (sym c.is_some.ensures ∙ c.if-is_some.true) in
    record {
      rest = rest_of c.args.words.now (c.args.at + 1);
      fails = BehindPath _ path.1 c.wrong_mode_fault.ensures.fails;
      at_is = c.wrong_mode_fault.ensures.at;
    }

pub returns-in-Some-mode_fault-clause-fails : goal.returns-in-Some-mode_fault-clause-fails
returns-in-Some-mode_fault-clause-fails c =
    let no_path : LacksAll is_path_kind (rest_of c.args.words.now c.args.at) = search rules in
    record {
      rest = rest_of c.args.words.now c.args.at;
      fails = Neither no_path refl (WrongMode (word_data c.in-Some.word.now) (rest_of c.args.words.now (c.args.at + 1)) c.in-Some.ensures.found (cc (c.in-Some-mode_fault.ensures.fault)));
      at_is = search rules;
    }

pub returns-in-None-clause-fails : goal.returns-in-None-clause-fails
returns-in-None-clause-fails c =
    let mode = right_mode _ _ _ _ c.in-Some.ensures.found c.in-None.ensures.right in
    record {
      rest = rest_of c.args.words.now (c.args.at + 1);
      fails = BehindMode mode.0 mode.1 (behind_mode _ _ _ _ mode.1 c.requires.wrong) (search rules);
      at_is = search rules;
    }
