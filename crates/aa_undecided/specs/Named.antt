-- Skipped files that may hold the profile of a name.
-- Source: own.
use Rattle.std.specs.Prelude.{ℕ, List, map, filter, Bool}
use Rattle.aa_model.specs.declared.policy.Policy.{Policy}
use Rattle.aa_model.specs.declared.policy.Profile.{Profile}
use Rattle.aa_skipping.specs.Names.{is_doubtful}
use Rattle.aa_skipped.specs.declared.skipped.Skipped.{Skipped}
use Rattle.aa_undecided.specs.Answers.{PlacedFile, placed}

-- a skipped file may hold the profile of that name, and none that is read has it
abbrev pub may_hold : List Profile → List ℕ → Skipped → Bool
may_hold profiles name k = is_doubtful profiles k.unread name

-- the files of which that is so
abbrev pub files_holding_in : List Skipped → List ℕ → Policy → List PlacedFile
files_holding_in skipped name policy = map placed (filter (may_hold policy.profiles name) skipped)
