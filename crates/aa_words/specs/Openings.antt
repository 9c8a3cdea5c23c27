-- What includes open, and what readings stand on, as the code has them.
use Rattle.aa_words.specs.declared.lexer.Opened.{Opened}
use Rattle.aa_words.specs.declared.lexer.Reader.{Reader}
use Rattle.aa_words.specs.Splits.{Opening, Setting}

-- a reading that is opened, without where its text lies in memory
abbrev pub opening_data : Opened → Opening
opening_data o = record { reading = o.reading; text = o.text.now; count = o.count }

-- what a reading stands in, without where its sources lie in memory
abbrev pub setting_data : Reader → Setting
setting_data r = record { sources = r.sources.now; depth = r.depth; reading = r.reading }
