-- The words of a log's line.
-- Source: as the audit daemon writes; as the kernel writes fields; as the bus daemon's lines stand in msg='..'; own.
use Rattle.std.specs.Prelude.{ℕ, zero, suc, ◌+◌, ◌-◌, ◌==◌, ◌||◌, ◌&&◌, nat_le, nat_lt, List, [], ◌∷◌, ◌++◌, length, take, drop}
use Rattle.std.specs.Prelude.{map, reverse, find, option_to_list, Bool, not, Option, Some, None, if◌then◌else◌}
use Rattle.std.specs.List.{prefix_len, position}
use Rattle.std.specs.Str.{bytes_eq}
use Rattle.aa_logs.specs.declared.word.Form.{Form}
use Rattle.aa_logs.specs.declared.word.Form.TheVariants.{Quoted, Open, Plain, Run}
use Rattle.aa_logs.specs.declared.word.LogWord.{LogWord}

-- space, tab, and the byte that stands before what an audit daemon adds
abbrev pub is_separator : ℕ → Bool
is_separator b = b == 32 || b == 9 || b == 29

-- a letter
abbrev pub is_letter : ℕ → Bool
is_letter b = (nat_le 97 b && nat_le b 122) || (nat_le 65 b && nat_le b 90)

-- a key can begin with the byte
abbrev pub begins_key : ℕ → Bool
begins_key b = is_letter b || b == 95

-- a key can go on with the byte
abbrev pub goes_on_key : ℕ → Bool
goes_on_key b = begins_key b || (nat_le 48 b && nat_le b 57)

-- how long the run is up to the next separator, and the key that stands first
abbrev pub run_len : List ℕ → ℕ
run_len bytes = prefix_len (λ b. not (is_separator b)) bytes

-- how long a key is
unfoldable pub key_len : List ℕ → ℕ
key_len [] = 0
key_len (b ∷ bs) = if begins_key b then suc (prefix_len goes_on_key bs) else 0

-- a word: its form, its key if it is a field, and its text
pub record WordData : Type 0 where
  pub form : Form
  pub key : List ℕ
  pub text : List ℕ

-- how many bytes stand first that belong together, and the word that they are, if they are one
pub record PieceData : Type 0 where
  pub bytes : ℕ
  pub word : Option WordData

-- KEY=RUN, of this form
abbrev pub plain_piece : Form → List ℕ → List ℕ → PieceData
plain_piece form key value = record { bytes = length key + 1 + run_len value; word = Some (record { form = form; key = key; text = take (run_len value) value }) }

-- KEY="TEXT" where a quote closes the text, which is so long
abbrev pub quoted_piece : List ℕ → List ℕ → Option ℕ → PieceData
quoted_piece key value None = plain_piece Open key value
quoted_piece key value (Some n) = record { bytes = length key + n + 3; word = Some (record { form = Quoted; key = key; text = take n (drop 1 value) }) }

-- what a key with its sign is, by what stands behind the sign: KEY=' by itself is no word
unfoldable pub field_piece : List ℕ → List ℕ → PieceData
field_piece key [] = plain_piece Plain key []
field_piece key (b ∷ bs) =
    if b == 34 then quoted_piece key (b ∷ bs) (position (λ c. c == 34) bs)
    else (if b == 39 then record { bytes = length key + 2; word = None }
    else plain_piece Plain key (b ∷ bs))

-- the piece of a run that is no field
abbrev pub run_piece : List ℕ → PieceData
run_piece line = record { bytes = run_len line; word = Some (record { form = Run; key = []; text = take (run_len line) line }) }

-- the piece of a field with that key, or of a run
abbrev pub keyed_piece : List ℕ → List ℕ → List ℕ → PieceData
keyed_piece line key [] = run_piece line
keyed_piece line key (b ∷ value) = if nat_lt 0 (length key) && b == 61 then field_piece key value else run_piece line

-- what stands first in a line that isn't empty: a separator, a field, or another run
unfoldable pub first_piece : List ℕ → PieceData
first_piece [] = record { bytes = 0; word = None }
first_piece (b ∷ bs) =
    if is_separator b then record { bytes = 1; word = None }
    else keyed_piece (b ∷ bs) (take (key_len (b ∷ bs)) (b ∷ bs)) (drop (key_len (b ∷ bs)) (b ∷ bs))

-- the words behind so many bytes, piece by piece
unfoldable pub words_behind : ℕ → List ℕ → List WordData
words_behind n [] = []
words_behind (suc n) (b ∷ bs) = words_behind n bs
words_behind zero (b ∷ bs) = option_to_list ((first_piece (b ∷ bs)).word) ++ words_behind ((first_piece (b ∷ bs)).bytes - 1) bs

-- the words of a line
abbrev pub words_of : List ℕ → List WordData
words_of line = words_behind 0 line

-- a word without where it lies in memory
abbrev pub word_data : LogWord → WordData
word_data w = record { form = w.form; key = w.key.now; text = w.text.now }

-- words without where they lie in memory
abbrev pub words_data : List LogWord → List WordData
words_data ws = map word_data ws

-- a key that comes twice counts with its last value
abbrev pub last_of : List ℕ → List LogWord → Option LogWord
last_of key words = find (λ w. bytes_eq w.key.now key) (reverse words)
