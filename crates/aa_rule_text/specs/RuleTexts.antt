-- The text of a rule as it is shown.
-- Source: own.
use Rattle.std.specs.Prelude.{ℕ, zero, suc, ◌-◌, ◌==◌, ◌&&◌, ◌||◌, nat_le, List, [], ◌∷◌, ◌++◌, length, take, drop, Bool, true, false, if◌then◌else◌, unwrap_or, slice_index}
use Rattle.aa_words.specs.Runs.{is_white, is_sign, begins_with, name_len, comment_len, path_len, path_start, quoted_len}
use Rattle.aa_text.specs.Excerpts.{character_end}
use Rattle.aa_rule_text.specs.declared.ruled.RulePlace.{RulePlace}

-- how long a word goes on behind its first byte: a text in quotes, a path, a sign, an arrow, a name
abbrev pub word_rest : ℕ → List ℕ → ℕ
word_rest b bs =
    if b == 34 then unwrap_or (quoted_len bs) 0
    else (if b == 47 || (b == 64 && begins_with 123 bs) then path_len path_start bs
    else (if is_sign b then 0
    else (if b == 45 && begins_with 62 bs then 1
    else name_len bs)))

-- a rule's text begins with a word
abbrev pub rule_start : RulePlace
rule_start = record { left = 0; blank = false }

-- what is left of a word or a comment behind its next byte
abbrev pub place_within : RulePlace → RulePlace
place_within p = record { left = p.left - 1; blank = p.blank }

-- where the text goes on behind a byte that stands between words: white space and comments are blank
abbrev pub place_between : ℕ → List ℕ → RulePlace
place_between b bs =
    if is_white b then record { left = 0; blank = true }
    else (if b == 35 then record { left = comment_len bs; blank = true }
    else record { left = word_rest b bs; blank = false })

-- the same behind any byte
abbrev pub place_next : RulePlace → ℕ → List ℕ → RulePlace
place_next p b bs = if p.left == 0 then place_between b bs else place_within p

-- the comma between words ends the rule
abbrev pub ends_rule : RulePlace → ℕ → Bool
ends_rule p b = p.left == 0 && b == 44

-- a space, behind white space or a comment
abbrev pub space_if : Bool → List ℕ
space_if blank = if blank then 32 ∷ [] else []

-- what is shown of a byte between words: none of white space and of a comment's sign, and before the comma no space
abbrev pub shown_between : Bool → ℕ → List ℕ
shown_between blank b =
    if is_white b || b == 35 then []
    else (if b == 44 then 44 ∷ [] else space_if blank ++ b ∷ [])

-- what is shown of a byte: in a word the byte, in a comment nothing
abbrev pub shown_at : RulePlace → ℕ → List ℕ
shown_at p b = if p.left == 0 then shown_between p.blank b else (if p.blank then [] else b ∷ [])

-- the text of a rule up to its comma, with one space for white space and comments between its words
unfoldable pub rule_from : RulePlace → List ℕ → List ℕ
rule_from p [] = []
rule_from p (b ∷ bs) = shown_at p b ++ (if ends_rule p b then [] else rule_from (place_next p b bs) bs)

-- the words of a text, with one space for white space and comments between them
unfoldable pub words_from : RulePlace → List ℕ → List ℕ
words_from p [] = []
words_from p (b ∷ bs) = shown_at p b ++ words_from (place_next p b bs) bs

-- the words between two places of a text
abbrev pub words_text : List ℕ → ℕ → ℕ → List ℕ
words_text text start end = words_from rule_start (take (end - start) (drop start text))

-- A rule's first word begins at the quote before its place, where one stands there.
abbrev pub rule_begin : List ℕ → ℕ → ℕ
rule_begin text zero = 0
rule_begin text (suc before) = if slice_index text before == 34 then before else suc before

-- the text, or what of its first 120 bytes is whole characters
abbrev pub shortened : List ℕ → List ℕ
shortened text = if nat_le (length text) 120 then text else take (character_end text 120) text

-- the rule whose place that is, from its first word to its comma; at most 120 bytes of it
abbrev pub rule_text : List ℕ → ℕ → List ℕ
rule_text text byte = shortened (rule_from rule_start (drop (rule_begin text byte) text))

-- the words of a head, whose place that is, up to where its brace begins; at most 120 bytes of them
abbrev pub head_text : List ℕ → ℕ → ℕ → List ℕ
head_text text byte end = shortened (words_text text (rule_begin text byte) end)
