-- Answers as they are printed.
-- Source: own.
use Rattle.std.specs.Prelude.{ℕ, ◌==◌, ◌&&◌, List, [], ◌∷◌, ◌++◌, length, flat_map, codes, decimal, Bool, false, if◌then◌else◌, Option, Some, None, unwrap_or}
use Rattle.aa_base.specs.Values.{value}
use Rattle.aa_text.specs.Visible.{all_visible}
use Rattle.aa_ask.specs.Told.{Told}
use Rattle.aa_ask.specs.Shown.{reasons_text}
use Rattle.aa_undecided.specs.Answers.{PlacedFile}
use Rattle.aa_undecided.specs.Shown.{doubt_text}
use Rattle.aa_who.specs.Untold.{untold_lines}
use Rattle.aa_who.specs.Grants.{Granted}
use Rattle.aa_who.specs.Answers.{Answered}

-- whether all is granted, and to whom
abbrev pub quantity_mark : Option (List ℕ) → List ℕ
quantity_mark None = codes "every "
quantity_mark (Some other) = codes "some "

-- where not all is, what is, and what isn't
abbrev pub examples_mark : Told → Option (List ℕ) → List ℕ
examples_mark t None = []
examples_mark t (Some other) = codes " as " ++ t.word ++ codes ", not " ++ other

-- what isn't granted at unclean paths, where all else is
abbrev pub apart_mark : Option (List ℕ) → List ℕ
apart_mark None = []
apart_mark (Some other) = codes ", only at unclean paths not " ++ other

-- a profile in complain mode
abbrev pub complains_mark : Bool → List ℕ
complains_mark complains = if complains then codes " complains" else []

-- every NAME WORD, or some NAME WORD
unfoldable pub who_text : List ℕ → Granted → List ℕ
who_text word g = quantity_mark g.refused ++ value g.name ++ codes " " ++ all_visible word

-- which requests show it
abbrev pub shown_by : Granted → List ℕ
shown_by g = examples_mark g.verdict g.refused ++ apart_mark g.apart

-- and as WORD, not WORD; and the rules
unfoldable pub grant_text : List ℕ → Granted → List ℕ
grant_text word g = who_text word g ++ shown_by g ++ complains_mark g.complains ++ codes "\n" ++ reasons_text g.verdict

-- what stands in front of those on unclean paths alone
unfoldable pub only_mark : List ℕ
only_mark = codes "only at unclean paths "

-- only at unclean paths NAME WORD
unfoldable pub apart_who : List ℕ → Granted → List ℕ
apart_who word g = only_mark ++ value g.name ++ codes " " ++ all_visible word

-- as WORD
unfoldable pub apart_front : List ℕ → Granted → List ℕ
apart_front word g = apart_who word g ++ (codes " as " ++ g.verdict.word)

-- and the rules
unfoldable pub apart_text : List ℕ → Granted → List ℕ
apart_text word g = apart_front word g ++ complains_mark g.complains ++ codes "\n" ++ reasons_text g.verdict

-- of each profile it is told that its rules allow nothing of a word
abbrev pub is_nobodys : Answered → Bool
is_nobodys a = length a.grants == 0 && length a.untold == 0

-- what is said then: that nobody is granted it; or, where skipped files may hold profiles, that it is undecided
abbrev pub none_text : List PlacedFile → List ℕ → List ℕ
none_text [] word = codes "nobody " ++ all_visible word ++ codes "\n"
none_text (file ∷ files) word = doubt_text (record { word = all_visible word; files = file ∷ files })

-- the same, if it is so
abbrev pub nobody_text : List PlacedFile → Answered → List ℕ
nobody_text holders a = if is_nobodys a then none_text holders a.word else []

-- what is said of tasks that aren't confined
abbrev pub free_mark : Bool → List ℕ
free_mark is_free = if is_free then codes "; not confined: every task without a profile\n" else codes "\n"

-- N of M profiles; not confined: every task without a profile
unfoldable pub count_line : Answered → List ℕ
count_line a = decimal (length a.grants) ++ codes " of " ++ decimal a.profiles ++ codes " profiles" ++ free_mark (unwrap_or a.is_free false)

-- the lines on what can't be told
abbrev pub untold_text : Answered → List ℕ
untold_text a = untold_lines a.untold ++ a.free_untold

-- the lines of an answer, where these skipped files may hold profiles; those on unclean paths alone stand behind the others
unfoldable pub answer_text : List PlacedFile → Answered → List ℕ
answer_text holders a = flat_map (grant_text a.word) a.grants ++ nobody_text holders a ++ count_line a ++ flat_map (apart_text a.word) a.apart
