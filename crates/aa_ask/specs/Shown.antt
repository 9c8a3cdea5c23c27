-- Verdicts as they are printed.
-- Source: own.
use Rattle.std.specs.Prelude.{ℕ, List, [], ◌∷◌, ◌++◌, flat_map, codes, Bool, if◌then◌else◌, Option, Some, None}
use Rattle.aa_base.specs.Values.{value}
use Rattle.aa_text.specs.Visible.{all_visible}
use Rattle.aa_text.specs.Texts.{where_text}
use Rattle.aa_ask.specs.Named.{Named, Lacked}
use Rattle.aa_ask.specs.Told.{Told}

-- before what was decided at a link's target
abbrev pub target_mark : Bool → List ℕ
target_mark is_target = if is_target then codes "target: " else []

-- what is said of a rule that decided
abbrev pub decider_verb : Bool → List ℕ
decider_verb denies = if denies then codes ": denies" else codes ": allows"

-- letters behind a space, where there are some
abbrev pub behind_space : List ℕ → List ℕ
behind_space [] = []
behind_space (c ∷ cs) = codes " " ++ c ∷ cs

-- letters, or `it` where there are none
abbrev pub letters_or_it : List ℕ → List ℕ
letters_or_it [] = codes "it"
letters_or_it (c ∷ cs) = c ∷ cs

-- PATH:LINE:COLUMN: allows
unfoldable pub decider_place : Named → List ℕ
decider_place n = codes "    " ++ target_mark n.is_target ++ where_text n.path n.place ++ decider_verb n.denies

-- a rule that decided: PATH:LINE:COLUMN: allows LETTERS: RULE, as it is shown
unfoldable pub decider_line : Named → List ℕ
decider_line n = decider_place n ++ behind_space n.letters ++ codes ": " ++ all_visible n.text ++ codes "\n"

-- what no rule allows
unfoldable pub lack_line : Lacked → List ℕ
lack_line k = codes "    " ++ target_mark k.is_target ++ codes "no rule allows " ++ letters_or_it k.letters ++ codes "\n"

-- what is missing besides
abbrev pub unfound_line : Option (List ℕ) → List ℕ
unfound_line None = []
unfound_line (Some what) = codes "    " ++ what ++ codes "\n"

-- a line for each reason: the rules that decided, what no rule allows, and what is missing besides
unfoldable pub reasons_text : Told → List ℕ
reasons_text t = flat_map decider_line t.deciders ++ flat_map lack_line t.lacking ++ unfound_line t.unfound

-- what is said of the verdict
abbrev pub verdict_word : Bool → List ℕ
verdict_word granted = if granted then codes "granted " else codes "denied "

-- who asks, where that isn't told by the command line: a task that isn't confined, or the profile of a program
abbrev pub asker_mark : Bool → Option (List ℕ) → List ℕ
asker_mark names None = codes "unconfined "
asker_mark names (Some name) = if names then value name ++ codes " " else []

-- the label after, where it is another one
abbrev pub label_mark : Option (List ℕ) → List ℕ
label_mark None = []
label_mark (Some name) = codes " label=" ++ value name

-- what is said of the environment
abbrev pub scrub_mark : Bool → List ℕ
scrub_mark scrub = if scrub then codes " scrub" else []

-- what is said of complain mode
abbrev pub complain_mark : Bool → List ℕ
complain_mark complain = if complain then codes " complain" else []

-- granted ASKER WORD label=NAME scrub complain
unfoldable pub head_line : Bool → Told → List ℕ
head_line names t = verdict_word t.granted ++ asker_mark names t.asker ++ t.word ++ label_mark t.label ++ scrub_mark t.scrub ++ complain_mark t.complain ++ codes "\n"

-- the lines of a verdict
abbrev pub verdict_text : Bool → Told → List ℕ
verdict_text names t = head_line names t ++ reasons_text t
