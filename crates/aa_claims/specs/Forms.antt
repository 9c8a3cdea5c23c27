-- The forms of claims.
-- Source: own.
use Rattle.std.specs.Prelude.{◌≡◌, ℕ, ◌+◌, ◌<◌, ◌==◌, ◌&&◌, ◌||◌, not, List, [], ◌∷◌, length, take, drop, position, codes, Bool, true, false, Option, Some, None, unwrap_or, option_map, if◌then◌else◌}
use Rattle.std.specs.Option.{option_and_then}
use Rattle.std.specs.List.{list_any, slice_get}
use Rattle.std.specs.Str.{bytes_eq}
use Rattle.aa_claims.specs.declared.words.ClaimWord.{ClaimWord}
use Rattle.aa_claims.specs.declared.fault.Wrong.{Wrong}
use Rattle.aa_claims.specs.declared.fault.Wrong.TheVariants.{NoClaim, Nothing, NoClause, Twice, NotHere, NoName, NoFrom}

-- the word is this one, without quotes
abbrev pub is_word : List ℕ → ClaimWord → Bool
is_word text w = not w.is_quoted && bytes_eq w.text.items text

-- it begins a clause
abbrev pub is_keyword : ClaimWord → Bool
is_keyword w = is_word (codes "in") w || (is_word (codes "except") w || (is_word (codes "to") w || is_word (codes "from") w))

-- a claim that something is never answered, and one that it always is
abbrev pub is_head : ClaimWord → Bool
is_head w = is_word (codes "never") w || is_word (codes "always") w

-- what is wrong with the first word of a claim: it begins none, or nothing stands behind it
abbrev pub head_wrong : ClaimWord → List ClaimWord → Option Wrong
head_wrong w [] = Some (if is_head w then Nothing else NoClaim)
head_wrong w (v ∷ vs) = if is_head w then None else Some NoClaim

-- names stand behind a word
abbrev pub begins_names : List ClaimWord → Bool
begins_names [] = false
begins_names (w ∷ ws) = not (is_keyword w)

-- the claim that a task never comes to some labels
abbrev pub is_reach : ClaimWord → ClaimWord → Bool
is_reach head asked = is_word (codes "never") head && is_word (codes "reach") asked

-- what is wrong with its second word: no name stands behind it, or it isn't said where a task begins
abbrev pub reach_wrong : List ClaimWord → Option Wrong
reach_wrong later = if not (begins_names later) then Some NoName else (if list_any (is_word (codes "from")) later then None else Some NoFrom)

-- with the second word, which says what is claimed
abbrev pub asked_wrong : ClaimWord → ClaimWord → List ClaimWord → Option Wrong
asked_wrong head w later = if is_keyword w then Some Nothing else (if is_reach head w then reach_wrong later else None)

-- a claim that begins with never has such a clause: never reach has from, others have in, except and to
abbrev pub never_has : ClaimWord → ClaimWord → ClaimWord → Bool
never_has head asked w = if is_reach head asked then is_word (codes "from") w else not (is_word (codes "from") w)

-- a claim of this head and this second word has such a clause: always has in, and always enforced none
abbrev pub has_clause : ClaimWord → ClaimWord → ClaimWord → Bool
has_clause head asked w =
    if is_word (codes "always") head then not (is_word (codes "enforced") asked) && is_word (codes "in") w
    else never_has head asked w

-- what is wrong with a word that begins a clause, behind these words of clauses
abbrev pub clause_wrong : ClaimWord → ClaimWord → List ClaimWord → ClaimWord → List ClaimWord → Option Wrong
clause_wrong head asked earlier w later =
    if list_any (λ v. not v.is_quoted && bytes_eq v.text.items w.text.items) earlier then Some Twice
    else (if not (has_clause head asked w) then Some NotHere
    else (if begins_names later then None else Some NoName))

-- with a word behind the second: the first of them has to begin a clause, but behind reach
abbrev pub later_wrong : ClaimWord → ClaimWord → List ClaimWord → ClaimWord → List ClaimWord → Option Wrong
later_wrong head asked earlier w later =
    if is_keyword w then clause_wrong head asked earlier w later
    else (if length earlier == 0 && not (is_reach head asked) then Some NoClause else None)

-- with a word between these
abbrev pub wrong_between : List ClaimWord → ClaimWord → List ClaimWord → Option Wrong
wrong_between [] w later = head_wrong w later
wrong_between (head ∷ []) w later = asked_wrong head w later
wrong_between (head ∷ asked ∷ earlier) w later = later_wrong head asked earlier w later

-- with the word of that number, if there is one
abbrev pub wrong_at : List ClaimWord → ℕ → Option Wrong
wrong_at ws i = option_and_then (λ w. wrong_between (take i ws) w (drop (i + 1) ws)) (slice_get ws i)

-- nothing is wrong with the first n words
abbrev pub AreRight : List ClaimWord → ℕ → Type 0
AreRight ws n = (j : ℕ) → j < n → wrong_at ws j ≡ None

-- the first word with which something is wrong stands there, and this is it
pub record IsFirstWrong (ws : List ClaimWord) (at : ℕ) (fault : Wrong) : Type 0 where
  pub number : ℕ
  pub word : ClaimWord
  pub is : slice_get ws number ≡ Some word
  pub at_is : at ≡ word.at
  pub fault_is : wrong_at ws number ≡ Some fault
  pub first : AreRight ws number

-- the words up to the next that begins a clause
abbrev pub up_to_clause : List ClaimWord → List ClaimWord
up_to_clause ws = take (unwrap_or (position is_keyword ws) (length ws)) ws

-- the names of the clause that a word begins, if it stands in the claim
abbrev pub names_behind : List ℕ → List ClaimWord → Option (List ClaimWord)
names_behind text ws = option_map (λ n. up_to_clause (drop (n + 1) ws)) (position (is_word text) ws)

-- the word that begins a clause, if it stands in the claim
abbrev pub keyword_of : List ℕ → List ClaimWord → Option ClaimWord
keyword_of text ws = option_and_then (slice_get ws) (position (is_word text) ws)

-- the first names, or else the others
abbrev pub names_or : Option (List ClaimWord) → Option (List ClaimWord) → Option (List ClaimWord)
names_or (Some ws) other = Some ws
names_or None other = other

-- the names of those whom a claim is about, if it says them: where a task begins, or whose requests are claimed
abbrev pub names_within : List ClaimWord → Option (List ClaimWord)
names_within ws = names_or (names_behind (codes "from") ws) (names_behind (codes "in") ws)

-- the names of the labels to which nothing leads, if it says them
abbrev pub names_led : List ClaimWord → Option (List ClaimWord)
names_led ws = names_or (names_behind (codes "to") ws) (names_behind (codes "reach") ws)
