-- The word at which a fault was found, and the part of the language that it stands for.
-- Source: own.
use Rattle.std.specs.Prelude.{ℕ, ◌-◌, ◌==◌, ◌||◌, ◌&&◌, nat_le, length, List, [], ◌∷◌, take, drop, reverse, Bool, false, not, Option, Some, None, codes, slice_index, if◌then◌else◌}
use Rattle.std.specs.List.{prefix_len}
use Rattle.std.specs.Str.{bytes_eq}
use Rattle.aa_rules.specs.Names.{begins_with, holds}

-- white space, a comma, a quote, a sign of the grammar
abbrev pub ends_word : ℕ → Bool
ends_word b = b == 32 || b == 9 || b == 13 || b == 10 || b == 44 || b == 34 || b == 40 || b == 41 || b == 61 || b == 123 || b == 125

-- the run that stands first
abbrev pub run_of : List ℕ → List ℕ
run_of text = take (prefix_len (λ b. not (ends_word b)) text) text

-- the run of bytes that begins at a byte
abbrev pub word_in : List ℕ → ℕ → List ℕ
word_in text byte = run_of (drop byte text)

-- a quote stands before the byte
abbrev pub is_quoted : List ℕ → ℕ → Bool
is_quoted text byte = nat_le 1 byte && nat_le byte (length text) && slice_index text (byte - 1) == 34

-- a quote, and outside of quotes white space
abbrev pub ends_piece : Bool → ℕ → Bool
ends_piece quoted b = b == 34 || (not quoted && (b == 32 || b == 9 || b == 13 || b == 10))

-- the path or the name that begins at a byte, with the choices and variables in it
abbrev pub piece_in : List ℕ → ℕ → List ℕ
piece_in text byte = take (prefix_len (λ b. not (ends_piece (is_quoted text byte) b)) (drop byte text)) (drop byte text)

-- a space or a tab
abbrev pub is_blank : ℕ → Bool
is_blank b = b == 32 || b == 9

-- a text without the blanks at its end
abbrev pub before_blanks : List ℕ → List ℕ
before_blanks text = take (length text - prefix_len is_blank (reverse text)) text

-- the last bytes of a text
abbrev pub last_bytes : ℕ → List ℕ → List ℕ
last_bytes n text = drop (length text - n) text

-- what begins at the byte stands straight behind the keyword of a change
abbrev pub is_behind_change : List ℕ → ℕ → Bool
is_behind_change text byte = bytes_eq (last_bytes 14 (before_blanks (take byte text))) (codes "change_profile")

-- the parts of the language that are left out, by their words
abbrev pub part_by_word : List ℕ → Option (List ℕ)
part_by_word word =
    if bytes_eq word (codes "alias") then Some (codes "an alias")
    else (if bytes_eq word (codes "link") then Some (codes "a link rule")
    else (if bytes_eq word (codes "hat") || bytes_eq word (codes "change_hat") then Some (codes "a hat")
    else (if bytes_eq word (codes "if") || bytes_eq word (codes "else") then Some (codes "a conditional")
    else (if bytes_eq word (codes "priority") || bytes_eq word (codes "quiet") || bytes_eq word (codes "other") then Some (codes "a qualifier")
    else (if bytes_eq word (codes "prompt") then Some (codes "prompt, a flag or a qualifier")
    else (if bytes_eq word (codes "all") then Some (codes "a rule on all")
    else (if bytes_eq word (codes "xattrs") then Some (codes "xattrs")
    else None)))))))

-- parts of heads of profiles that are left out, by their words
abbrev pub part_of_head : List ℕ → Option (List ℕ)
part_of_head word =
    if bytes_eq word (codes "unconfined") then Some (codes "a flag or a profile called so")
    else (if bytes_eq word (codes "kill") || bytes_eq word (codes "default_allow") then Some (codes "a flag called so")
    else (if bytes_eq word (codes "profile") then Some (codes "a profile in a child")
    else None))

-- parts of rules that are left out, by their words
abbrev pub part_of_rule : List ℕ → Option (List ℕ)
part_of_rule word =
    if bytes_eq word (codes "->") then Some (codes "a target without an execution")
    else (if bytes_eq word (codes "icmp") then Some (codes "icmp")
    else (if bytes_eq word (codes "ip") || bytes_eq word (codes "port") || bytes_eq word (codes "peer") then Some (codes "an address")
    else None))

-- the same by the sign with which a word begins, or which stands in its place
abbrev pub part_by_sign : List ℕ → Option (List ℕ)
part_by_sign [] = None
part_by_sign (b ∷ bs) =
    if b == 94 then Some (codes "a hat")
    else (if b == 36 then Some (codes "a Boolean variable")
    else (if b == 58 then Some (codes "a namespace")
    else (if b == 38 then Some (codes "stacking")
    else (if b == 123 then Some (codes "a block behind a qualifier")
    else (if b == 40 then Some (codes "an access list")
    else (if b == 61 then Some (codes "a value of a flag or a condition")
    else None))))))

-- a letter or a digit stands first
abbrev pub begins_letter : List ℕ → Bool
begins_letter [] = false
begins_letter (b ∷ bs) = (nat_le 48 b && nat_le b 57) || (nat_le 65 b && nat_le b 90) || (nat_le 97 b && nat_le b 122)

-- a letter or a digit stands behind a backslash
unfoldable pub keeps_letter : List ℕ → Bool
keeps_letter [] = false
keeps_letter (b ∷ bs) = (b == 92 && begins_letter bs) || keeps_letter bs

-- parts that are left out of a path or a name, by what it holds
abbrev pub part_by_bytes : List ℕ → Option (List ℕ)
part_by_bytes piece =
    if holds (codes "//&") piece then Some (codes "stacking")
    else (if keeps_letter piece then Some (codes "a backslash before a letter or a digit")
    else (if holds (codes "@{exec_path}") piece then Some (codes "the variable @{exec_path}")
    else (if holds (codes "@{profile_name}") piece then Some (codes "the variable @{profile_name}")
    else None)))

-- what a path may be at which reading can't go on
abbrev pub part_behind_slash : List ℕ → List ℕ
part_behind_slash piece =
    if holds (codes "@{") piece then codes "a profile in a child, or what a variable here stands for"
    else (if holds (codes "//") piece then codes "a profile in a child, or a name of the top level with //"
    else codes "a profile in a child")

-- the same of a path or a name, by what it may be
abbrev pub part_of_path : List ℕ → Option (List ℕ)
part_of_path piece =
    if begins_with 47 piece then Some (part_behind_slash piece)
    else (if holds (codes "@{") piece then Some (codes "a variable here, or what it stands for")
    else (if holds (codes "//") piece then Some (codes "a name of the top level with //")
    else None))

-- an exec part of mixed case stands in a word
abbrev pub is_mixed : List ℕ → Bool
is_mixed word = holds (codes "pUx") word || holds (codes "Pux") word || holds (codes "cUx") word || holds (codes "Cux") word

-- what may be a mode
abbrev pub part_of_mode : List ℕ → Option (List ℕ)
part_of_mode word = if is_mixed word then Some (codes "a mode of mixed case") else None

-- the first part, or else the other
abbrev pub or_part : Option (List ℕ) → Option (List ℕ) → Option (List ℕ)
or_part (Some part) other = Some part
or_part None other = other

-- the part that a word and its piece tell by themselves
unfoldable pub part_of : List ℕ → List ℕ → Option (List ℕ)
part_of word piece =
    or_part (part_by_word word) (or_part (part_of_head word) (or_part (part_of_rule word) (or_part (part_by_sign piece) (or_part (part_by_bytes piece) (or_part (part_of_path piece) (part_of_mode word))))))

-- the part straight behind the keyword of a change
abbrev pub part_of_change : List ℕ → List ℕ
part_of_change word =
    if bytes_eq word (codes "safe") || bytes_eq word (codes "unsafe") then codes "a change that says so"
    else codes "a condition on the program"

-- what begins in quotes may be a profile's name
abbrev pub part_in_quotes : Bool → Option (List ℕ)
part_in_quotes quoted = if quoted then Some (codes "a profile in a child") else None

-- the part of the language that is left out at a byte of a text, where it tells
unfoldable pub left_out : List ℕ → ℕ → Option (List ℕ)
left_out text byte =
    if is_behind_change text byte then Some (part_of_change (word_in text byte))
    else or_part (part_of (word_in text byte) (piece_in text byte)) (part_in_quotes (is_quoted text byte))
