-- What the lines of a log say.
-- Source: own.
use Rattle.std.specs.Prelude.{ℕ, List, flat_map, replicate, Option, Some, None}
use Rattle.aa_logs.specs.LogLines.{LogLine, log_line}
use Rattle.aa_logs.specs.Records.{without_return}
use Rattle.std.specs.Cow.{cow_slice_items}
use Rattle.aa_messages.specs.declared.said.Said.{Said}
use Rattle.aa_messages.specs.Journal.{message_in}
use Rattle.aa_messages.specs.Repeated.{RepeatedData, repeated_in}

-- the message that is repeated, or else the whole message, once
abbrev pub said_of : List ℕ → Option RepeatedData → RepeatedData
said_of message None = record { times = 1; text = message }
said_of message (Some r) = r

-- what a line says, without where it lies in memory
abbrev pub said_data : Said → RepeatedData
said_data s = record { times = s.times; text = cow_slice_items s.text }

-- how often a line says which message
unfoldable pub said_in : List ℕ → RepeatedData
said_in line = said_of (message_in line) (repeated_in (without_return (message_in line)))

-- the lines that a line stands for: its message, as often as it says it
abbrev pub lines_said : LogLine → List LogLine
lines_said l = replicate (said_in l.bytes).times (log_line l.log l.number (said_in l.bytes).text)

-- those of several lines, in their order
abbrev pub all_said : List LogLine → List LogLine
all_said ls = flat_map lines_said ls
