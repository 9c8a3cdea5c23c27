use Rattle.std.proofs.Common.{◌+◌, sym, ◌∙◌, ap}
use Rattle.std.specs.Prelude.{Some}
use Rattle.aa_words.specs.Splits.{word_data}
use Rattle.aa_rules.specs.Reading.{rest_of}
use Rattle.aa_rules.specs.RuleFaults.{WrongMode}
use Rattle.aa_rules.proofs.WrongModes.{no_mode}
use Rattle.aa_rules.proofs.faults.wrong_mode_fault.Goals as goal

pub wrong_mode-requires : goal.wrong_mode-requires
wrong_mode-requires c = record { wrong = no_mode _ _ _ _ c.in-Some.ensures.found c.requires.wrong }

pub returns-clause-fails : goal.returns-clause-fails
returns-clause-fails c =
    WrongMode (word_data c.in-Some.word.now) (rest_of c.args.words.now (c.args.at + 1)) c.in-Some.ensures.found (c.wrong_mode.ensures.kind ∙ ap Some (sym c.fault-2.ensures.kind))
