-- Names that profiles of skipped files may have.
-- Source: own.
use Rattle.std.specs.Prelude.{ℕ, ◌==◌, ◌&&◌, ◌||◌, List, ◌∷◌, ◌++◌, codes, Bool}
use Rattle.std.specs.List.{list_any}
use Rattle.aa_skipping.specs.declared.unread.Head.{Head}
use Rattle.aa_skipped.specs.declared.skipped.Skipped.{Skipped}
use Rattle.aa_ask.specs.Wildcards.{stands_for, may_stand_for}

-- a profile with that head, or a child of it, may have a name for which the text stands
abbrev pub may_be : List ℕ → Head → Bool
may_be text h = stands_for text h.name || may_stand_for text (h.name ++ codes "//")

-- so of one of a skipped file
abbrev pub may_hold : List ℕ → Skipped → Bool
may_hold text k = k.unread.others || list_any (may_be text) k.unread.heads

-- so of one of some skipped files
abbrev pub one_may_hold : List ℕ → List Skipped → Bool
one_may_hold text skipped = list_any (may_hold text) skipped
