-- What the caller has opened.
-- Source: own.
use Rattle.std.specs.Prelude.{ℕ, ◌||◌, nat_eq, List, codes, Bool}
use Rattle.std.specs.List.{starts_with}
use Rattle.std.specs.Str.{bytes_eq}

-- a path by which a process names what its caller has opened
abbrev pub is_opened : List ℕ → Bool
is_opened path = bytes_eq path (codes "/dev/stdin") || starts_with nat_eq path (codes "/dev/fd/") || starts_with nat_eq path (codes "/proc/self/fd/")

-- a path by which it names its standard input
abbrev pub is_input : List ℕ → Bool
is_input path = bytes_eq path (codes "-") || bytes_eq path (codes "/dev/stdin") || bytes_eq path (codes "/dev/fd/0") || bytes_eq path (codes "/proc/self/fd/0")
