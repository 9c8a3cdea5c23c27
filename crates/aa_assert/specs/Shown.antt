-- Answers as they are printed.
-- Source: own.
use Rattle.std.specs.Prelude.{ℕ, ◌==◌, not, List, [], ◌∷◌, ◌++◌, length, flat_map, codes, decimal, Bool, Option, Some, None, if◌then◌else◌}
use Rattle.std.specs.List.{count_by}
use Rattle.aa_base.specs.Values.{value}
use Rattle.aa_text.specs.Visible.{all_visible}
use Rattle.aa_ask.specs.Shown.{reasons_text}
use Rattle.aa_undecided.specs.Answers.{PlacedFile}
use Rattle.aa_undecided.specs.Shown.{doubt_reason}
use Rattle.aa_who.specs.Untold.{untold_lines}
use Rattle.aa_who.specs.Shown.{complains_mark}
use Rattle.aa_assert.specs.Findings.{Found, ByRequest, ByWay, Complaining}
use Rattle.aa_assert.specs.Answers.{Answered}

-- how a task's profile is called, or that it has none
abbrev pub asker_text : Option (List ℕ) → List ℕ
asker_text None = codes "unconfined"
asker_text (Some name) = value name

-- PATH:LINE: broken:
unfoldable pub broken_text : List ℕ → ℕ → List ℕ
broken_text path number = all_visible path ++ codes ":" ++ decimal number ++ codes ": broken: "

-- a word behind a space
abbrev pub word_behind : List ℕ → List ℕ
word_behind word = codes " " ++ word

-- by whom: NAME WORD, a mark where the profile complains; or NAME reaches LABEL: WORD.., with that mark; or NAME complains
unfoldable pub by_line : Found → List ℕ
by_line (ByRequest complains t) = asker_text t.asker ++ codes " " ++ t.word ++ complains_mark complains
by_line (ByWay complains w) = asker_text w.asker ++ codes " reaches " ++ asker_text w.to ++ codes ":" ++ flat_map word_behind w.words ++ complains_mark complains
by_line (Complaining name) = value name ++ codes " complains"

-- the rules that decide a request
abbrev pub why_text : Found → List ℕ
why_text (ByRequest complains t) = reasons_text t
why_text (ByWay complains w) = []
why_text (Complaining name) = []

-- so, and the rules
abbrev pub by_text : Found → List ℕ
by_text f = by_line f ++ codes "\n" ++ why_text f

-- so of a claim
abbrev pub finding_text : List ℕ → ℕ → Found → List ℕ
finding_text path number f = broken_text path number ++ by_text f

-- somebody breaks the claim
abbrev pub is_broken : Answered → Bool
is_broken a = not (length a.found.list == 0)

-- the skipped files that could break it, where nobody does
abbrev pub files_open : Answered → List PlacedFile
files_open a = if is_broken a then [] else a.found.doubt

-- nobody breaks it, and skipped files could
abbrev pub is_undecided : Answered → Bool
is_undecided a = not (length (files_open a) == 0)

-- PATH:LINE: undecided
unfoldable pub undecided_text : List ℕ → ℕ → List ℕ
undecided_text path number = all_visible path ++ codes ":" ++ decimal number ++ codes ": undecided\n"

-- so, and by which files; nothing where there are none
abbrev pub doubt_text : List ℕ → ℕ → List PlacedFile → List ℕ
doubt_text path number [] = []
doubt_text path number (file ∷ files) = undecided_text path number ++ doubt_reason (file ∷ files)

-- PATH:LINE: only at unclean paths:
unfoldable pub only_text : List ℕ → ℕ → List ℕ
only_text path number = all_visible path ++ codes ":" ++ decimal number ++ codes ": only at unclean paths: "

-- by whom a claim is broken so
abbrev pub apart_text : List ℕ → ℕ → Found → List ℕ
apart_text path number f = only_text path number ++ by_text f

-- all by whom a claim is broken, or that it is undecided; and behind that by whom at unclean paths alone, where these don't count
abbrev pub answer_text : List ℕ → Answered → List ℕ
answer_text path a =
    flat_map (finding_text path a.number) a.found.list ++ doubt_text path a.number (files_open a) ++ flat_map (apart_text path a.number) a.found.apart

-- how many are undecided, if some are
abbrev pub undecided_count : ℕ → List ℕ
undecided_count n = if n == 0 then [] else codes " " ++ decimal n ++ codes " undecided"

-- how many claims there are, how many are broken, and how many are undecided
unfoldable pub count_line : List Answered → List ℕ
count_line answers =
    decimal (length answers) ++ codes " claims " ++ decimal (count_by is_broken answers) ++ codes " broken" ++ undecided_count (count_by is_undecided answers) ++ codes "\n"

-- the lines on what can't be told
abbrev pub untold_text : Answered → List ℕ
untold_text a = untold_lines a.found.untold

-- the answers, and the counts
unfoldable pub answers_text : List ℕ → List Answered → List ℕ
answers_text path answers = flat_map (answer_text path) answers ++ count_line answers
