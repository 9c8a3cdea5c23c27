-- The form of an include: a keyword, then `if exists` or not, then a name between signs.
-- Source: apparmor.d(5), "#include mechanism".
use Rattle.std.specs.Prelude.{ℕ, ◌+◌, ◌-◌, length, is_some, List, [], ◌∷◌, take, drop, ◌==◌, ◌||◌, if◌then◌else◌, Option, Some, None, Result, Ok, Err, codes, option_and_then, Bool, true, false}
use Rattle.std.specs.Str.{bytes_eq}
use Rattle.aa_words.specs.Runs.{is_white, begins_with, name_len}

-- the bytes behind white space, line ends too
unfoldable pub behind_white : List ℕ → List ℕ
behind_white [] = []
behind_white (b ∷ bs) = if is_white b then behind_white bs else b ∷ bs

-- the bytes behind a word, where that is the whole run that stands first
abbrev pub behind_word : List ℕ → List ℕ → Option (List ℕ)
behind_word word bytes = if bytes_eq (take (name_len bytes) bytes) word then Some (drop (name_len bytes) bytes) else None

-- the bytes behind `if exists`, where that stands first
abbrev pub behind_if_exists : List ℕ → Option (List ℕ)
behind_if_exists bytes = option_and_then (λ rest. behind_word (codes "exists") (behind_white rest)) (behind_word (codes "if") bytes)

-- what stands behind white space, where the form before it isn't there
abbrev pub or_else_white : List ℕ → Option (List ℕ) → List ℕ
or_else_white bytes None = bytes
or_else_white bytes (Some rest) = behind_white rest

-- the bytes from the opening sign on
unfoldable pub from_sign : List ℕ → List ℕ
from_sign bytes = or_else_white (behind_white bytes) (behind_if_exists (behind_white bytes))

-- an include's name ends before the sign that closes it; a line end and a zero byte end it too
abbrev pub ends_include_name : ℕ → ℕ → Bool
ends_include_name sign b = b == sign || b == 10 || b == 0

-- the bytes behind an include's name
unfoldable pub behind_name : ℕ → List ℕ → List ℕ
behind_name sign [] = []
behind_name sign (b ∷ bs) = if ends_include_name sign b then b ∷ bs else behind_name sign bs

-- the bytes behind the closing sign; an error has the bytes that stand in its place
abbrev pub behind_sign : ℕ → List ℕ → Result (List ℕ) (List ℕ)
behind_sign sign [] = Err []
behind_sign sign (b ∷ bs) = if b == sign then Ok bs else Err (b ∷ bs)

-- a name in < > or in quotes
abbrev pub named_form : List ℕ → Result (List ℕ) (List ℕ)
named_form [] = Err []
named_form (b ∷ bs) =
    if b == 60 then behind_sign 62 (behind_name 62 bs)
    else (if b == 34 then behind_sign 34 (behind_name 34 bs)
    else Err (b ∷ bs))

-- What stands behind an include's keyword: the bytes behind its name, or those at which its form breaks off.
unfoldable pub include_form : List ℕ → Result (List ℕ) (List ℕ)
include_form bytes = named_form (from_sign bytes)

-- an include's form was found whole
abbrev pub has_form : Result (List ℕ) (List ℕ) → Bool
has_form (Ok rest) = true
has_form (Err broken) = false

-- what stands behind an include's keyword has an include's form
abbrev pub has_include_form : Option (List ℕ) → Bool
has_include_form None = false
has_include_form (Some rest) = has_form (include_form rest)

-- #include and an include's form: with another form it is a comment
unfoldable pub is_hash_include : List ℕ → Bool
is_hash_include bytes = has_include_form (behind_word (codes "#include") bytes)

-- the name between the signs
unfoldable pub include_name : ℕ → List ℕ → List ℕ
include_name sign [] = []
include_name sign (b ∷ bs) = if ends_include_name sign b then [] else b ∷ include_name sign bs

-- the name behind an opening sign, up to the sign that closes it
abbrev pub name_in_signs : List ℕ → List ℕ
name_in_signs [] = []
name_in_signs (b ∷ bs) = if b == 60 then include_name 62 bs else include_name 34 bs

-- the name in an include's text
unfoldable pub included_name : List ℕ → List ℕ
included_name text = name_in_signs (from_sign (drop (name_len text) text))

-- `if exists` stands in an include's text
unfoldable pub is_optional : List ℕ → Bool
is_optional text = is_some (behind_if_exists (behind_white (drop (name_len text) text)))

-- how many bytes an include has, with a comma that stands straight behind it
abbrev pub include_end : List ℕ → Result (List ℕ) (List ℕ) → ℕ
include_end bytes (Ok rest) = (length bytes - length rest) + (if begins_with 44 rest then 1 else 0)
include_end bytes (Err broken) = 0

-- how long an include is behind its first byte, with a comma that stands straight behind it
unfoldable pub include_len : List ℕ → ℕ
include_len bytes = include_end bytes (include_form (drop (name_len bytes) bytes))
