-- Includes, as the code has them.
use Rattle.std.specs.Prelude.{List, map}
use Rattle.aa_words.specs.declared.found.IncludeAt.{IncludeAt}
use Rattle.aa_words.specs.Found.{IncludeData}

-- an include without where it lies in memory
abbrev pub include_data : IncludeAt → IncludeData
include_data i = record { byte = i.byte; text = i.text.now }

-- includes without where they lie in memory
abbrev pub includes_data : List IncludeAt → List IncludeData
includes_data is = map include_data is
