-- The exit status where an output can't be written.
-- Source: own.
use Rattle.std.specs.Prelude.{ℕ}
use Rattle.aa_command.specs.declared.writing.Unwritten.{Unwritten}
use Rattle.aa_command.specs.declared.writing.Unwritten.TheVariants.{Closed}

-- 141 where nobody reads the answers any more, as a shell tells it of SIGPIPE, else 3
abbrev pub unwritten_status : Unwritten → ℕ
unwritten_status Closed = 141
unwritten_status _ = 3
