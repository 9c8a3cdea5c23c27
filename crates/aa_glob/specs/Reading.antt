-- How a text is read as a pattern: its tokens, and how a list of items is spelled by tokens.
use Rattle.std.specs.Prelude.{ℕ, suc, zero, ◌+◌, ◌-◌, ◌==◌, ◌&&◌, ◌≡◌, ◌≢◌, Bool, true, false, List, [], ◌∷◌, ◌++◌}
use Rattle.std.specs.Prelude.{take, drop, length, if◌then◌else◌, nat_lt, Option, Some, None, option_and_then, option_map, Result, Ok, Err}
use Rattle.aa_base.specs.declared.fault.PolicyKind.{PolicyKind}
use Rattle.aa_base.specs.declared.fault.PolicyKind.TheVariants.{NoMemory, Unsupported, BadPattern}
use Rattle.aa_glob.specs.declared.sign.Sign.{Sign}
use Rattle.aa_glob.specs.declared.sign.Token.{Token}
use Rattle.aa_glob.specs.declared.sign.Token.TheVariants.{Open, Comma, Close, Single}
use Rattle.aa_pattern.specs.declared.item.Item.{Item, Byte, One, Run, RunOne, Deep, DeepOne, Choice', Row_of-Item, end_of-Item, more_of-Item, Row_of-Item-Choice-0-1, end_of-Item-Choice-0-1, more_of-Item-Choice-0-1}
use Rattle.aa_pattern.specs.Sameness.{SameItems}
use Rattle.aa_glob.specs.Signs.{signs, is_unsupported, stands_for}
use Rattle.aa_glob.specs.Classes.{class_len, class_of}

-- how many stars stand first
unfoldable pub stars : List Sign → ℕ
stars [] = 0
stars (s ∷ ss) = if stands_for 42 s then suc (stars ss) else 0

-- the byte '/' comes next, or nothing
abbrev pub ends_part : List Sign → Bool
ends_part [] = true
ends_part (s ∷ ss) = s.byte == 47

-- the stars between a '/' and a '/' or the end of the text match at least one byte
abbrev pub star_item : Bool → Bool → Item
star_item many alone = if alone then (if many then DeepOne else RunOne) else (if many then Deep else Run)

-- a class, and how many signs it has after its [
unfoldable pub class_after : ℕ → Bool → List Sign → Option (Token × ℕ)
class_after before negated ss =
    if nat_lt (class_len ss) (length ss) then option_map (λ i. (Single i, before + class_len ss + 1)) (class_of negated (take (class_len ss) ss)) else None

-- the class whose inside stands first, and how many signs it has
abbrev pub class_at : List Sign → Option (Token × ℕ)
class_at [] = None
class_at (s ∷ ss) = if stands_for 94 s then class_after 1 true ss else class_after 0 false (s ∷ ss)

-- The token that stands first, and how many signs it has after its first. `depth` choices are open; `slash`: a '/' stands before.
unfoldable pub token_at : ℕ → Bool → Sign → List Sign → Option (Token × ℕ)
token_at depth slash s ss =
    if s.kept then Some (Single (Byte s.byte), 0)
    else (if s.byte == 63 then Some (Single One, 0)
    else (if s.byte == 42 then Some (Single (star_item (nat_lt 0 (stars ss)) (slash && ends_part (drop (stars ss) ss))), stars ss)
    else (if s.byte == 91 then class_at ss
    else (if s.byte == 123 then (if nat_lt depth 16 then Some (Open, 0) else None)
    else (if s.byte == 44 && nat_lt 0 depth then Some (Comma, 0)
    else (if s.byte == 125 then (if nat_lt 0 depth then Some (Close, 0) else None)
    else (if s.byte == 92 then None
    else Some (Single (Byte s.byte), 0))))))))

-- how many choices are open behind a token
abbrev pub depth_after : ℕ → Token → ℕ
depth_after depth Open = depth + 1
depth_after depth Comma = depth
depth_after depth Close = depth - 1
depth_after depth (Single item) = depth

-- the token is the byte /
abbrev pub is_slash : Token → Bool
is_slash (Single (Byte b)) = b == 47
is_slash _ = false

-- at the end of a text no choice is open
abbrev pub at_end : ℕ → Option (List Token)
at_end zero = Some []
at_end (suc depth) = None

-- What stands first, and then, behind all its signs, the tokens of the rest.
unfoldable pub tokens_from : ℕ → Bool → ℕ → List Sign → Option (List Token)
tokens_from depth slash skip [] = at_end depth
tokens_from depth slash (suc more) (s ∷ ss) = tokens_from depth slash more ss
tokens_from depth slash zero (s ∷ ss) =
    option_and_then (λ t. option_map (λ ts. t.0 ∷ ts) (tokens_from (depth_after depth t.0) (is_slash t.0) t.1 ss)) (token_at depth slash s ss)

-- the tokens, or BadPattern where there are none
abbrev pub or_bad : Option (List Token) → Result (List Token) PolicyKind
or_bad None = Err BadPattern
or_bad (Some ts) = Ok ts

-- the tokens of a text, or why it is no pattern
unfoldable pub tokens : List ℕ → Result (List Token) PolicyKind
tokens text = if is_unsupported text then Err Unsupported else or_bad (tokens_from 0 false 0 (signs text))

abbrev mutual
  -- the tokens that spell an item: a choice is spelled by its branches between { and }, any other item by itself
  pub spelled_item : Item → List Token
  spelled_item (Choice' shape branches) = spelled_choice (Choice' shape branches) branches
  spelled_item item = Single item ∷ []

  -- no text has the token of a choice without branches
  pub spelled_choice : {n : _} → Item → Row_of-Item-Choice-0-1 n → List Token
  spelled_choice choice end_of-Item-Choice-0-1 = Single choice ∷ []
  spelled_choice choice (more_of-Item-Choice-0-1 _ branch rest) = Open ∷ (spelled_row branch ++ spelled_rest rest)

  -- each further branch stands behind a comma
  pub spelled_rest : {n : _} → Row_of-Item-Choice-0-1 n → List Token
  spelled_rest end_of-Item-Choice-0-1 = Close ∷ []
  spelled_rest (more_of-Item-Choice-0-1 _ branch rest) = Comma ∷ (spelled_row branch ++ spelled_rest rest)

  pub spelled_row : {n : _} → Row_of-Item n → List Token
  spelled_row end_of-Item = []
  spelled_row (more_of-Item item rest) = spelled_item item ++ spelled_row rest

-- the tokens that spell a list of items
abbrev pub spelled : List Item → List Token
spelled [] = []
spelled (item ∷ items) = spelled_item item ++ spelled items

-- What a function returned, seen by view, is what reading gives; refused for another cause than memory, its fault.
abbrev pub Gives : {X Y : Type 0} → (X → Y) → Result X PolicyKind → Result Y PolicyKind → Type 0
Gives view (Ok x) read = read ≡ Ok (view x)
Gives view (Err e) read = e ≢ NoMemory → read ≡ Err e

-- The same of a reader whose one fault is BadPattern.
abbrev pub Finds : {X Y : Type 0} → (X → Y) → Result X PolicyKind → Option Y → Type 0
Finds view (Ok x) read = read ≡ Some (view x)
Finds view (Err e) read = e ≢ NoMemory → (e ≡ BadPattern) × (read ≡ None)

-- lists of items that are spelled by the same tokens are the same
abbrev pub TokensDecideItems : Type 0
TokensDecideItems = (items others : List Item) → spelled items ≡ spelled others → SameItems items others
