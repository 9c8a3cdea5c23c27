-- Why a log isn't read.
-- Source: own.
use Rattle.std.specs.Prelude.{ℕ, List, codes}
use Rattle.aa_base.specs.declared.unread.Unread.{Unread}
use Rattle.aa_base.specs.declared.unread.Unread.TheVariants.{NoMemory, NotFound, NotAllowed, NotAFile, Failed, TooLarge}
use Rattle.aa_diagnostics.specs.Reports.{IsOfWhole}
use Rattle.aa_command.specs.Printed.{Printed}
use Rattle.aa_command.specs.Refusals.{SaysFault, SaysUnread}

-- what is said of the log that asks one request too many, with those before it
unfoldable pub too_many_requests : List ℕ
too_many_requests = codes "the logs up to here ask more than 1,000,000 distinct requests"

-- that is said: 3
abbrev pub SaysTooMany : List ℕ → Printed → Type 0
SaysTooMany path out = SaysFault (IsOfWhole (codes "TooLarge") path too_many_requests) 3 out

-- it is said of a log, or why it can't be read
abbrev pub SaysUnreadLog : List ℕ → Unread → Printed → Type 0
SaysUnreadLog path TooLarge out = SaysTooMany path out
SaysUnreadLog path NoMemory out = SaysUnread path NoMemory out
SaysUnreadLog path NotFound out = SaysUnread path NotFound out
SaysUnreadLog path NotAllowed out = SaysUnread path NotAllowed out
SaysUnreadLog path NotAFile out = SaysUnread path NotAFile out
SaysUnreadLog path Failed out = SaysUnread path Failed out
