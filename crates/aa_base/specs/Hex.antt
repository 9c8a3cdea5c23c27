-- Hexadecimal digits: two for each byte, the higher first.
-- Source: own; as the kernel writes names.
use Rattle.std.specs.Prelude.{ℕ, ◌+◌, ◌-◌, ◌*◌, ◌/◌, ◌%◌, ◌||◌, ◌&&◌, nat_le, nat_lt, List, [], ◌∷◌, Bool, true, false, if◌then◌else◌, Option, Some, None}
use Rattle.std.specs.List.{list_all}

-- the byte of a digit, where the letters begin with this one
abbrev pub digit_by : ℕ → ℕ → ℕ
digit_by ten n = if nat_lt n 10 then 48 + n else ten + (n - 10)

-- a byte as two digits
abbrev pub pair_by : ℕ → ℕ → List ℕ
pair_by ten b = digit_by ten (b / 16) ∷ digit_by ten (b % 16) ∷ []

-- 0 to 9, A to F
abbrev pub hex_digit : ℕ → ℕ
hex_digit n = digit_by 65 n

-- a byte as two upper-case digits
abbrev pub hex_pair : ℕ → List ℕ
hex_pair b = pair_by 65 b

-- a byte as two lower-case digits
abbrev pub small_pair : ℕ → List ℕ
small_pair b = pair_by 97 b

-- a digit of either case
abbrev pub is_hex_digit : ℕ → Bool
is_hex_digit b = (nat_le 48 b && nat_le b 57) || (nat_le 65 b && nat_le b 70) || (nat_le 97 b && nat_le b 102)

-- the value of a digit of either case
abbrev pub digit_of : ℕ → ℕ
digit_of b = if nat_le b 57 then b - 48 else (if nat_le b 70 then b - 55 else b - 87)

-- the bytes that digits are
unfoldable pub bytes_of_hex : List ℕ → List ℕ
bytes_of_hex [] = []
bytes_of_hex (a ∷ []) = []
bytes_of_hex (a ∷ b ∷ rest) = (16 * digit_of a + digit_of b) ∷ bytes_of_hex rest

-- an even number of bytes
abbrev pub is_even : List ℕ → Bool
is_even [] = true
is_even (a ∷ []) = false
is_even (a ∷ b ∷ rest) = is_even rest

-- an even number of digits of either case; none of them are no bytes
abbrev pub is_hex : List ℕ → Bool
is_hex text = is_even text && list_all is_hex_digit text

-- the bytes that a text of digits is
abbrev pub digits_in : List ℕ → Option (List ℕ)
digits_in text = if is_hex text then Some (bytes_of_hex text) else None
