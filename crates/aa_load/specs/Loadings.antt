-- What is read so far, as the code has it.
-- Source: own.
use Rattle.std.specs.Prelude.{map}
use Rattle.aa_explain.specs.Places.{places_data}
use Rattle.aa_load.specs.declared.reading.Reading.{Reading}
use Rattle.aa_load.specs.Joining.{JoinedData}

-- what was joined
abbrev pub reading_data : Reading → JoinedData
reading_data r = record { rows = r.joining; owners = r.owners.items; places = map places_data r.places.items }
