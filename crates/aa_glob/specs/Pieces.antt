-- A text cut into bytes and variables.
-- Source: apparmor.d(5), "Variables".
use Rattle.std.specs.Prelude.{ℕ, zero, suc, ◌+◌, ◌==◌, ◌&&◌, ◌||◌, Bool, false, List, [], ◌∷◌, take, drop, length, if◌then◌else◌, Option, Some, None}
use Rattle.aa_glob.specs.Signs.{is_letter, is_letter_or_digit}

-- a byte, a variable's name, or an @{ that no variable follows
pub data Piece : Type 0 where
  Plain : ℕ → Piece
  Use : List ℕ → Piece
  Broken : Piece

-- the byte stands first
abbrev pub begins_with : ℕ → List ℕ → Bool
begins_with c [] = false
begins_with c (b ∷ bs) = b == c

-- how many letters, digits and _ stand first
unfoldable pub name_len : List ℕ → ℕ
name_len [] = 0
name_len (b ∷ bs) = if is_letter_or_digit b || b == 95 then suc (name_len bs) else 0

-- the name behind @{ : a letter, then letters, digits and _, up to }
abbrev pub name_at : List ℕ → Option (List ℕ)
name_at [] = None
name_at (b ∷ bs) = if is_letter b && begins_with 125 (drop (name_len bs) bs) then Some (b ∷ take (name_len bs) bs) else None

-- the piece of a variable, and those behind it
abbrev pub behind_name : Option (List ℕ) → (ℕ → List Piece) → List Piece
behind_name None rest = Broken ∷ []
behind_name (Some name) rest = Use name ∷ rest (length name + 2)

-- A backslash keeps the next byte; `skip` bytes belong to the piece before.
unfoldable pub pieces_from : Bool → ℕ → List ℕ → List Piece
pieces_from kept skip [] = []
pieces_from kept (suc more) (b ∷ bs) = pieces_from kept more bs
pieces_from kept zero (b ∷ bs) =
    if kept then Plain b ∷ pieces_from false 0 bs
    else (if b == 64 && begins_with 123 bs then behind_name (name_at (drop 1 bs)) (λ n. pieces_from false n bs)
    else Plain b ∷ pieces_from (b == 92) 0 bs)

-- the pieces of a text
abbrev pub pieces : List ℕ → List Piece
pieces text = pieces_from false 0 text
