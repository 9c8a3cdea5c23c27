-- What a requested mask asks for, and whose the object is.
-- Source: own.
use Rattle.std.specs.Prelude.{ℕ, ◌==◌, ◌||◌, List, [], ◌∷◌, Bool, false, if◌then◌else◌, Option, Some, None, option_and_then, unwrap_or, bit_or}

-- a letter is its one permission; to create and to delete is to write
abbrev pub letter_bits : ℕ → Option ℕ
letter_bits c =
    if c == 114 then Some 1
    else (if c == 119 || c == 99 || c == 100 then Some 2
    else (if c == 97 then Some 4
    else (if c == 107 then Some 16
    else (if c == 109 then Some 32 else None))))

-- the bits so far, and those of the letters that follow
unfoldable pub letters_bits : ℕ → List ℕ → Option ℕ
letters_bits bits [] = Some bits
letters_bits bits (c ∷ cs) = option_and_then (λ b. letters_bits (bit_or bits b) cs) (letter_bits c)

-- the object is the task's user's where both users are told and one; where one isn't told, an old mask tells; else it isn't
abbrev pub owned_by : Option ℕ → Option ℕ → Option Bool → Bool
owned_by (Some user) (Some owner) by_mask = user == owner
owned_by (Some user) None by_mask = unwrap_or by_mask false
owned_by None owner by_mask = unwrap_or by_mask false
