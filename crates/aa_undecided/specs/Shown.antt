-- Answers as they are printed.
-- Source: own.
use Rattle.std.specs.Prelude.{ℕ, List, [], ◌∷◌, ◌++◌, ◌==◌, length, flat_map, codes, decimal, Bool, Option, if◌then◌else◌}
use Rattle.aa_text.specs.Visible.{all_visible}
use Rattle.aa_text.specs.Faults.{where_if}
use Rattle.aa_text.specs.declared.position.PlaceAt.{PlaceAt}
use Rattle.aa_ask.specs.Shown.{verdict_text}
use Rattle.aa_undecided.specs.Answers.{PlacedFile, DoubtData, AnswerData, Settled, Undecided}

-- that there are so many more files
abbrev pub more_text : ℕ → List ℕ
more_text count = if count == 0 then [] else codes ", or " ++ decimal count ++ codes " more"

-- where a file is refused
unfoldable pub refused_at : List ℕ → Option PlaceAt → List ℕ
refused_at at place = codes ", refused at " ++ where_if at place

-- which files could decide: the first by its path and the place of its fault, and how many more
unfoldable pub files_text : PlacedFile → ℕ → List ℕ
files_text file more = codes "    could be decided by " ++ all_visible file.path ++ refused_at file.at file.place ++ more_text more ++ codes "\n"

-- why a request is undecided
abbrev pub doubt_reason : List PlacedFile → List ℕ
doubt_reason [] = codes "    an earlier request is undecided\n"
doubt_reason (file ∷ files) = files_text file (length files)

-- the lines of a request that is undecided
unfoldable pub doubt_text : DoubtData → List ℕ
doubt_text k = codes "undecided " ++ k.word ++ codes "\n" ++ doubt_reason k.files

-- the lines of an answer
abbrev pub answer_text : Bool → AnswerData → List ℕ
answer_text names (Settled t) = verdict_text names t
answer_text names (Undecided k) = doubt_text k

-- those of all
abbrev pub answers_text : Bool → List AnswerData → List ℕ
answers_text names as' = flat_map (answer_text names) as'
