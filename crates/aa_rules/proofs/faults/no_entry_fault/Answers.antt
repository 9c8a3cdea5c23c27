use Rattle.std.proofs.Common.{codes, refl, rules, sym, ◌∙◌, ◌+◌}
use Rattle.aa_words.specs.Splits.{word_data}
use Rattle.aa_rules.specs.Phrases.{Keyword, LacksKeyword}
use Rattle.aa_rules.specs.Reading.{rest_of}
use Rattle.aa_rules.specs.RuleFaults.{Unmoded, BehindFile, AtName}
use Rattle.aa_rules.proofs.WrongModes.{behind_path, path_pair, behind_file, value_there}
use Rattle.aa_rules.proofs.faults.no_entry_fault.Goals as goal

pub wrong_mode_fault-requires : goal.wrong_mode_fault-requires
wrong_mode_fault-requires c =
    let path = value_there _ c.path_at.result c.path_at.ensures.found (sym c.is_some.ensures ∙ c.if-is_some.true) in
    record { wrong = behind_path _ _ _ _ path.1 (path_pair _ _ _ _ path.1 c.requires.wrong) }

pub behind_file_fault-requires : goal.behind_file_fault-requires
behind_file_fault-requires c =
    let file : Keyword (codes "file") (rest_of c.args.words.now c.args.at) (rest_of c.args.words.now (c.args.at + 1)) = search rules in
    record { wrong = behind_file _ _ _ file c.requires.wrong }

pub returns-then-is_some-clause-fails : goal.returns-then-is_some-clause-fails
returns-then-is_some-clause-fails c =
    let path = value_there _ c.path_at.result c.path_at.ensures.found (sym c.is_some.ensures ∙ c.if-is_some.true) in
    record {
      rest = rest_of c.args.words.now (c.args.at + 1);
      fails = Unmoded _ path.1 c.wrong_mode_fault.ensures.fails;
      at_is = c.wrong_mode_fault.ensures.at;
    }

pub returns-then-keyword_stands-clause-fails : goal.returns-then-keyword_stands-clause-fails
returns-then-keyword_stands-clause-fails c =
    let file : Keyword (codes "file") (rest_of c.args.words.now c.args.at) (rest_of c.args.words.now (c.args.at + 1)) = search rules in
    let behind = c.behind_file_fault.ensures.fails in
    record { rest = behind.rest; fails = BehindFile _ file behind.fails; at_is = behind.at_is }

pub returns-clause-fails : goal.returns-clause-fails
returns-clause-fails c =
    let lacks : LacksKeyword (codes "file") (rest_of c.args.words.now c.args.at) = search rules in
    record {
      rest = rest_of c.args.words.now c.args.at;
      fails = AtName (word_data c.in-Some.word.now) (rest_of c.args.words.now (c.args.at + 1)) c.in-Some.ensures.found lacks refl (cc);
      at_is = search rules;
    }
