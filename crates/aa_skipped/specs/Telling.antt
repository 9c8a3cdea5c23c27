-- What people are told of the files that are skipped.
-- Source: own.
use Rattle.std.specs.Prelude.{ℕ, ◌==◌, List, [], ◌++◌, length, flat_map, codes, decimal, if◌then◌else◌}
use Rattle.aa_base.specs.Values.{value}
use Rattle.aa_text.specs.Visible.{all_visible}
use Rattle.aa_text.specs.Faults.{fault_text}
use Rattle.aa_skipping.specs.declared.unread.Head.{Head}
use Rattle.aa_skipping.specs.declared.unread.Unread.{Unread}
use Rattle.aa_command.specs.Printed.{Printed}
use Rattle.aa_skipped.specs.declared.skipped.Skipped.{Skipped}

-- the name of a profile behind a space
abbrev pub listed_head : Head → List ℕ
listed_head h = codes " " ++ value h.name

-- the profiles that heads tell, by their number and names
unfoldable pub listed_heads : List Head → List ℕ
listed_heads heads = decimal (length heads) ++ codes " profiles" ++ flat_map listed_head heads

-- which profiles a file seems to hold
abbrev pub what_is_known : Unread → List ℕ
what_is_known unread = if unread.others then codes "any profiles" else listed_heads unread.heads

-- what stands behind its path
unfoldable pub skipped_words : List ℕ
skipped_words = codes " is skipped: "

-- that a file is skipped, in one line
unfoldable pub skipped_line : Skipped → List ℕ
skipped_line k = codes "warning: " ++ all_visible k.path.items ++ skipped_words ++ what_is_known k.unread ++ codes "\n"

-- why, and that it is
unfoldable pub skipped_text : Skipped → List ℕ
skipped_text k = fault_text k.fault ++ skipped_line k

-- what is printed, behind what is told of the files that are skipped
abbrev pub behind_skipped : List Skipped → Printed → Printed
behind_skipped skipped own = record { answers = own.answers; faults = flat_map skipped_text skipped ++ own.faults; refusal = own.refusal; status = own.status }

-- how many files are skipped, where some are: so many aren't looked at
abbrev pub count_text : ℕ → List ℕ
count_text n = if n == 0 then [] else decimal n ++ codes " files skipped\n"
