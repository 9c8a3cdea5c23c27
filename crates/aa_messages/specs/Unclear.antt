-- Lines of logs that aren't understood.
-- Source: as ausearch(8) writes under `-i`; the Journal JSON Format, as systemd has it; own.
use Rattle.std.specs.Prelude.{ℕ, ◌==◌, ◌||◌, ◌&&◌, nat_le, nat_lt, nat_eq, List, length, take, codes, Bool, true, false, not, Option, Some, None}
use Rattle.std.specs.List.{starts_with, list_any}
use Rattle.aa_logs.specs.Outcomes.{Outcome, Another, AsksNothing, AsksFor}
use Rattle.aa_logs.specs.Records.{line_in}
use Rattle.aa_logs.specs.LogLines.{LogLine}
use Rattle.aa_messages.specs.Parts.{behind_part}
use Rattle.aa_messages.specs.Journal.{begins_object}
use Rattle.aa_messages.specs.Said.{said_in}

-- a control byte that no text has; a zero byte, a bell, white space and an escape come in some, and 0x1d in those of the audit daemon
abbrev pub is_binary : ℕ → Bool
is_binary b = (nat_le 1 b && nat_le b 6) || (nat_le 14 b && nat_le b 26) || b == 28 || b == 30 || b == 31

-- one stands among the first 32 bytes: the line is of a packed log, or of another that is no text
abbrev pub is_no_text : List ℕ → Bool
is_no_text line = list_any is_binary (take 32 line)

-- a value stands there without quotes
abbrev pub is_bare : Option (List ℕ) → Bool
is_bare None = false
is_bare (Some value) = not (starts_with nat_eq value (codes "\""))

-- a record of the audit daemon whose fields stand without quotes, as people are shown it
abbrev pub is_interpreted : List ℕ → Bool
is_interpreted line = (starts_with nat_eq line (codes "type=") || starts_with nat_eq line (codes "node=")) && is_bare (behind_part (codes "apparmor=") line)

-- what such a line can hide is no record that is read: it is too long, an object, no text, or a record in another form
abbrev pub may_hide : List ℕ → Bool
may_hide line = nat_lt 65536 (length line) || begins_object line || is_no_text line || is_interpreted line

-- the line isn't the access control's
abbrev pub is_another : Outcome → Bool
is_another Another = true
is_another (AsksNothing cause) = false
is_another (AsksFor r) = false

-- a line isn't understood: it isn't one of the access control's, and may hide one
unfoldable pub is_unclear : List ℕ → Bool
is_unclear line = may_hide line && is_another (line_in line)

-- the message of a line isn't
abbrev pub is_unclear_line : LogLine → Bool
is_unclear_line l = is_unclear (said_in l.bytes).text
