-- Messages that come several times, and are written once.
-- Source: as rsyslog writes them; own.
use Rattle.std.specs.Prelude.{ℕ, ◌+◌, ◌-◌, ◌*◌, min, max, List, [], ◌∷◌, take, drop, codes, Option, option_map, option_and_then}
use Rattle.std.specs.List.{prefix_len}
use Rattle.aa_logs.specs.Fields.{is_digit}
use Rattle.aa_messages.specs.declared.repeated.Repeated.{Repeated}
use Rattle.aa_messages.specs.Parts.{behind_front, behind_part, before_bracket}

-- how often a message came, and which
pub record RepeatedData : Type 0 where
  pub times : ℕ
  pub text : List ℕ

-- the same without where it lies in memory
abbrev pub repeated_data : Repeated → RepeatedData
repeated_data r = record { times = r.times; text = r.text.now }

-- the number that digits go on with, 10,000 at the most
unfoldable pub number_from : ℕ → List ℕ → ℕ
number_from n [] = n
number_from n (b ∷ bs) = number_from (min (10 * n + (b - 48)) 10000) bs

-- so often a message counts: once at least, and 10,000 times at the most
abbrev pub times_of : List ℕ → ℕ
times_of digits = max 1 (number_from 0 digits)

-- N times: [TEXT
abbrev pub times_and_text : List ℕ → Option RepeatedData
times_and_text rest =
    option_map (λ text. record { times = times_of (take (prefix_len is_digit rest) rest); text = text })
    (behind_front (codes " times: [") (drop (prefix_len is_digit rest) rest))

-- what stands before how often
unfoldable pub repeated_mark : List ℕ
repeated_mark = codes "message repeated "

-- what stands behind that, up to the bracket at the end
abbrev pub behind_mark : List ℕ → Option (List ℕ)
behind_mark message = option_and_then (behind_part repeated_mark) (before_bracket message)

-- .. message repeated N times: [TEXT]
unfoldable pub repeated_in : List ℕ → Option RepeatedData
repeated_in message = option_and_then times_and_text (behind_mark message)
