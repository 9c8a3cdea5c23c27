-- Which files of a folder are read.
-- Source: as apparmor_parser skips files of a folder.
use Rattle.std.specs.Prelude.{ℕ, ◌-◌, ◌==◌, ◌||◌, List, [], ◌∷◌, length, drop, codes, Bool, false}
use Rattle.std.specs.Str.{bytes_eq}

-- the name ends so
abbrev pub ends_in : List ℕ → List ℕ → Bool
ends_in ending name = bytes_eq (drop (length name - length ending) name) ending

-- a dot stands first
abbrev pub begins_with_dot : List ℕ → Bool
begins_with_dot [] = false
begins_with_dot (b ∷ bs) = b == 46

-- a leftover of another package manager, of a merge or of an editor
unfoldable pub is_leftover : List ℕ → Bool
is_leftover name =
    ends_in (codes ".rpmnew") name || ends_in (codes ".rpmsave") name || ends_in (codes ".orig") name || ends_in (codes ".rej") name || ends_in (codes "~") name

-- what a package manager keeps beside a file
unfoldable pub is_kept_beside : List ℕ → Bool
is_kept_beside name =
    ends_in (codes ".dpkg-new") name || ends_in (codes ".dpkg-old") name || ends_in (codes ".dpkg-dist") name || ends_in (codes ".dpkg-bak") name
    || ends_in (codes ".dpkg-remove") name || ends_in (codes ".pacsave") name || ends_in (codes ".pacnew") name

-- a hidden file, README, what a package manager keeps beside a file, and leftovers
abbrev pub passes_over : List ℕ → Bool
passes_over name = begins_with_dot name || bytes_eq name (codes "README") || is_kept_beside name || is_leftover name
