-- What isn't told, as it is printed.
-- Source: own.
use Rattle.std.specs.Prelude.{ℕ, List, [], ◌∷◌, ◌++◌, ◌+◌, length, map, flat_map, codes, decimal}
use Rattle.aa_base.specs.Values.{value}
use Rattle.aa_text.specs.Visible.{all_visible}
use Rattle.aa_text.specs.Jsons.{json_bytes, key_text, member_text, list_text}
use Rattle.aa_skipped.specs.Telling.{count_text}
use Rattle.aa_undecided.specs.Answers.{PlacedFile}
use Rattle.aa_undecided.specs.Shown.{refused_at}
use Rattle.aa_undecided.specs.Jsons.{json_placed}
use Rattle.aa_differences.specs.declared.comparison.Excess.{Excess}
use Rattle.aa_differences.specs.declared.comparison.Excess.TheVariants.{Patterns, States}
use Rattle.aa_passed_over.specs.declared.apart.Side.{Side}
use Rattle.aa_passed_over.specs.declared.apart.Side.TheVariants.{Old, New}
use Rattle.aa_diff.specs.Printed.{side_text, more_text}
use Rattle.aa_diff.specs.Untold.{About, Free, Named, Others, Untold, Large, AllUntold}

-- ---- as text

-- of whom
abbrev pub about_text : About → List ℕ
about_text Free = codes "unconfined is"
about_text (Named name) = codes "profile " ++ value name ++ codes " is"
about_text Others = codes "other profiles are"

-- the side skips a file, where that is refused, and how many more files there are
unfoldable pub skips_text : Side → PlacedFile → ℕ → List ℕ
skips_text side file more = side_text side ++ codes " skips " ++ all_visible file.path ++ refused_at file.at file.place ++ more_text more

-- the first of the files
abbrev pub files_text : List PlacedFile → List PlacedFile → List ℕ
files_text (f ∷ fs) new = skips_text Old f (length fs + length new)
files_text [] (f ∷ fs) = skips_text New f (length fs)
files_text [] [] = []

-- that, in words
unfoldable pub untold_words : List ℕ → Untold → List ℕ
untold_words words u = about_text u.who ++ words ++ files_text u.old u.new

-- a line
abbrev pub untold_line : List ℕ → Untold → List ℕ
untold_line words u = untold_words words u ++ codes "\n"

-- patterns need too many states
unfoldable pub states_text : ℕ → List ℕ
states_text limit = codes "the patterns of OLD and NEW need more than " ++ decimal limit ++ codes " states together"

-- what there is too much of
abbrev pub excess_text : Excess → ℕ → List ℕ
excess_text Patterns limit = codes "OLD and NEW have more than 65535 patterns together"
excess_text States limit = states_text limit

-- who isn't compared, and why
unfoldable pub large_words : Large → List ℕ
large_words x = about_text x.who ++ codes " not compared: " ++ excess_text x.why x.limit

-- a line
abbrev pub large_line : Large → List ℕ
large_line x = large_words x ++ codes "\n"

-- at which labels something is undecided, and which profiles aren't compared
abbrev pub untold_text : AllUntold → List ℕ
untold_text a =
    flat_map (untold_line (codes " undecided: ")) a.undecided ++ flat_map (untold_line (codes " not compared: ")) a.not_compared ++ flat_map large_line a.too_large

-- the label
abbrev pub at_text : About → List ℕ
at_text Free = codes "unconfined"
at_text (Named name) = codes "label " ++ value name
at_text Others = codes "other labels"

-- what helps
abbrev pub help_text : Excess → List ℕ
help_text Patterns = []
help_text States = codes "; --states allows more"

-- as a fault
unfoldable pub large_fault : Large → List ℕ
large_fault x = codes "error: at " ++ at_text x.who ++ codes " " ++ excess_text x.why x.limit ++ help_text x.why ++ codes "\n"

-- how many files are skipped
abbrev pub skipped_text : AllUntold → List ℕ
skipped_text a = count_text (length a.old + length a.new)

-- ---- as JSON

-- the profile, or null
abbrev pub json_who : About → List ℕ
json_who (Named name) = json_bytes name
json_who _ = codes "null"

-- the files of each side, as members
unfoldable pub json_files : List PlacedFile → List PlacedFile → List ℕ
json_files old new = member_text (codes "old") (list_text (map json_placed old)) ++ member_text (codes "new") (list_text (map json_placed new))

-- an object
unfoldable pub json_untold : Untold → List ℕ
json_untold u = codes "{" ++ key_text (codes "profile") ++ json_who u.who ++ json_files u.old u.new ++ codes "}"

-- whose patterns are too many
abbrev pub json_large : Large → List ℕ
json_large x = json_who x.who

-- a member with these, if there are some
abbrev pub json_all_large : List Large → List ℕ
json_all_large [] = []
json_all_large (x ∷ xs) = member_text (codes "untold") (list_text (map json_large (x ∷ xs)))

-- the files that are skipped: those of the old side, and those of the new one
unfoldable pub json_skipped : List PlacedFile → List PlacedFile → List ℕ
json_skipped old new = codes "{" ++ key_text (codes "old") ++ list_text (map json_placed old) ++ member_text (codes "new") (list_text (map json_placed new)) ++ codes "}"

-- all, as members
unfoldable pub json_all_untold : AllUntold → List ℕ
json_all_untold a =
    member_text (codes "undecided") (list_text (map json_untold a.undecided)) ++ member_text (codes "not_compared") (list_text (map json_untold a.not_compared))
    ++ json_all_large a.too_large ++ member_text (codes "skipped") (json_skipped a.old a.new)
