-- Which lines of logs are wanted.
-- Source: as the audit daemon writes; own.
use Rattle.std.specs.Prelude.{ℕ, ◌==◌, ◌||◌, ◌&&◌, nat_le, List, length, take, drop, codes, Bool, true, false, Option, Some, None, is_none}
use Rattle.std.specs.List.{list_any, prefix_len}
use Rattle.std.specs.Option.{option_or}
use Rattle.std.specs.Str.{bytes_eq}
use Rattle.aa_logs.specs.Words.{WordData, words_of}
use Rattle.aa_logs.specs.Fields.{text_in, is_digit, number_in}
use Rattle.aa_logs.specs.Records.{begins_stamp, is_time, without_return}

-- no profile is named, or the line's own is one of those
abbrev pub is_among : List (List ℕ) → Option (List ℕ) → Bool
is_among names None = length names == 0
is_among names (Some name) = length names == 0 || list_any (λ n. bytes_eq n name) names

-- the second is no earlier
abbrev pub is_from : Option ℕ → ℕ → Bool
is_from None second = true
is_from (Some since) second = nat_le since second

-- the second is no later
abbrev pub is_up_to : Option ℕ → ℕ → Bool
is_up_to None second = true
is_up_to (Some until) second = nat_le second until

-- the second is within both ends
abbrev pub is_between : Option ℕ → Option ℕ → Option ℕ → Bool
is_between since until None = false
is_between since until (Some second) = is_from since second && is_up_to until second

-- the second that a stamp tells: the digits behind `audit(`
abbrev pub second_at : List ℕ → Option ℕ
second_at text = number_in (take (prefix_len is_digit text) text)

-- a stamp within the time, both ends among it
unfoldable pub is_stamp_between : Option ℕ → Option ℕ → WordData → Bool
is_stamp_between since until w = begins_stamp w && is_time (drop 6 w.text) && is_between since until (second_at (drop 6 w.text))

-- no time is given, or a stamp of the line lies within it
abbrev pub is_in_time : Option ℕ → Option ℕ → List WordData → Bool
is_in_time since until ws = (is_none since && is_none until) || list_any (is_stamp_between since until) ws

-- the words are those of a record that is wanted
abbrev pub are_chosen : List (List ℕ) → Option ℕ → Option ℕ → List WordData → Bool
are_chosen names since until ws = is_among names (option_or (text_in (codes "profile") ws) (text_in (codes "label") ws)) && is_in_time since until ws

-- a line of one of these profiles, all where none is named, and of this time, all where neither end is given
unfoldable pub is_chosen : List (List ℕ) → Option ℕ → Option ℕ → List ℕ → Bool
is_chosen names since until line = are_chosen names since until (words_of (without_return line))
