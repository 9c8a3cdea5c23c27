-- The rules and assignments that words are, one behind another.
-- Source: apparmor.d(5), "Format", "Variables"; own.
use Rattle.std.specs.Prelude.{ℕ, suc, ◌==◌, ◌&&◌, ◌||◌, List, [], ◌∷◌, find, Bool, true, false, not, Option, if◌then◌else◌}
use Rattle.std.specs.List.{list_any}
use Rattle.aa_base.specs.declared.fault.Spot.{Spot}
use Rattle.aa_words.specs.declared.word.WordKind.{WordKind}
use Rattle.aa_words.specs.declared.word.WordKind.TheVariants.{Open, Close, Comma, Equals, PlusEquals, Value}
use Rattle.aa_words.specs.Runs.{is_variable}
use Rattle.aa_words.specs.Splits.{WordData}
use Rattle.aa_rules.specs.Grammar.{spot_of}

-- the word ends a rule, or begins or ends a body
abbrev pub ends : WordKind → Bool
ends Comma = true
ends Open = true
ends Close = true
ends _ = false

-- the word is a sign with which values are given to a variable
abbrev pub is_sign : WordKind → Bool
is_sign Equals = true
is_sign PlusEquals = true
is_sign _ = false

-- the word is a value of a variable
abbrev pub is_value : WordKind → Bool
is_value Value = true
is_value _ = false

-- such a sign stands first
abbrev pub is_sign_first : List WordData → Bool
is_sign_first [] = false
is_sign_first (w ∷ ws) = is_sign w.kind

-- a value stands first
abbrev pub is_value_first : List WordData → Bool
is_value_first [] = false
is_value_first (w ∷ ws) = is_value w.kind

-- the word is a variable, and values are given to it
abbrev pub is_assigned : WordData → List WordData → Bool
is_assigned w ws = is_variable w.text && is_sign_first ws

-- a statement ends with a word, before those behind it: at a comma or a brace, before a variable that gets values, behind the last of these, and at the end
abbrev pub parts : WordData → List WordData → Bool
parts w [] = true
parts w (v ∷ vs) = ends w.kind || is_assigned v vs || (is_value w.kind && not (is_value_first (v ∷ vs)))

-- a word stands before the first of some statements
abbrev pub with_first : WordData → List (List WordData) → List (List WordData)
with_first w [] = (w ∷ []) ∷ []
with_first w (s ∷ ss) = (w ∷ s) ∷ ss

-- the statements that words are: each goes on until a word parts it from the next
abbrev pub statements : List WordData → List (List WordData)
statements [] = []
statements (w ∷ ws) = if parts w ws then (w ∷ []) ∷ statements ws else with_first w (statements ws)

-- how many words the first statement has
abbrev pub first_length : List WordData → ℕ
first_length [] = 0
first_length (w ∷ ws) = if parts w ws then 1 else suc (first_length ws)

-- the word begins at the place
abbrev pub stands_at : Spot → WordData → Bool
stands_at at w = (spot_of w).file == at.file && (spot_of w).byte == at.byte

-- one of the words begins at the place
abbrev pub has_word_at : Spot → List WordData → Bool
has_word_at at ws = list_any (stands_at at) ws

-- the first statement that has a word at the place
abbrev pub statement_at : Spot → List WordData → Option (List WordData)
statement_at at ws = find (has_word_at at) (statements ws)
