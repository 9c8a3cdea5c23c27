-- Heads without what they say beside names and attachments.
-- Source: apparmor.d(5), "Profile Head"; own.
use Rattle.std.specs.Prelude.{ℕ, List, [], ◌∷◌, ◌++◌, codes, Bool, true, false, not, if◌then◌else◌}
use Rattle.aa_words.specs.declared.word.WordKind.{WordKind}
use Rattle.aa_words.specs.declared.word.WordKind.TheVariants.{Open, RightParen, Name}
use Rattle.aa_words.specs.Splits.{WordData, is_one_of}

-- an opening brace, with which a head ends
abbrev pub is_open : WordKind → Bool
is_open Open = true
is_open _ = false

-- a list of flags ends with it, or else the head
abbrev pub ends_flags : WordKind → Bool
ends_flags Open = true
ends_flags RightParen = true
ends_flags _ = false

-- the keywords of flags, and of conditions on a program's extended attributes
abbrev pub flag_words : List (List ℕ)
flag_words = codes "flags" ∷ codes "xattrs" ∷ []

-- such a keyword
abbrev pub is_flag_word : WordKind → List ℕ → Bool
is_flag_word Name text = is_one_of flag_words text
is_flag_word _ text = false

-- a list of flags goes on behind a word, where one did before it
abbrev pub goes_on : Bool → WordData → Bool
goes_on inside w = if inside then not (ends_flags w.kind) else is_flag_word w.kind w.text

-- the word, unless a list of flags has it
abbrev pub if_no_flag : Bool → WordData → List WordData
if_no_flag inside w = if (if inside then is_open w.kind else not (is_flag_word w.kind w.text)) then w ∷ [] else []

-- words without lists of flags, where one is begun before them
unfoldable pub without_flags : Bool → List WordData → List WordData
without_flags inside [] = []
without_flags inside (w ∷ ws) = if_no_flag inside w ++ without_flags (goes_on inside w) ws
