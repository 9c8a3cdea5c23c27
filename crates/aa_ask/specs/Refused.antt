-- Why a file of words isn't read.
-- Source: own.
use Rattle.std.specs.Prelude.{ℕ, List, codes}
use Rattle.aa_base.specs.declared.unread.Unread.{Unread}
use Rattle.aa_base.specs.declared.unread.Unread.TheVariants.{NoMemory, NotFound, NotAllowed, NotAFile, Failed, TooLarge}
use Rattle.aa_diagnostics.specs.Reports.{IsOfWhole}
use Rattle.aa_command.specs.Printed.{Printed}
use Rattle.aa_command.specs.Refusals.{SaysFault, SaysUnread}

-- what is said of a file that is too long
unfoldable pub long_text : List ℕ
long_text = codes "a file has at most 1,048,576 bytes"

-- what is said of a file that has one word too many
unfoldable pub many_words : List ℕ
many_words = codes "ask takes at most 65,536 words, with those of the command line"

-- a limit is passed at a path: 3
abbrev pub SaysTooLarge : List ℕ → List ℕ → Printed → Type 0
SaysTooLarge path message out = SaysFault (IsOfWhole (codes "TooLarge") path message) 3 out

-- a file of words can't be read, be it that it is too long
abbrev pub SaysUnreadWords : List ℕ → Unread → Printed → Type 0
SaysUnreadWords path TooLarge out = SaysTooLarge path long_text out
SaysUnreadWords path NoMemory out = ⊥
SaysUnreadWords path NotFound out = SaysUnread path NotFound out
SaysUnreadWords path NotAllowed out = SaysUnread path NotAllowed out
SaysUnreadWords path NotAFile out = SaysUnread path NotAFile out
SaysUnreadWords path Failed out = SaysUnread path Failed out
