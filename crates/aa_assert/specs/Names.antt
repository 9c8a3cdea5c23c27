-- The profiles that a name in a claim stands for.
-- Source: own.
use Rattle.std.specs.Prelude.{ℕ, ◌==◌, ◌&&◌, ◌||◌, not, List, [], ◌∷◌, map, Bool, false, if◌then◌else◌}
use Rattle.aa_pattern.specs.Matching.{is_match}
use Rattle.aa_compile.specs.FileRules.{is_nil}
use Rattle.aa_claims.specs.declared.words.ClaimWord.{ClaimWord}
use Rattle.aa_ask.specs.Wildcards.{name_item, is_in_digits, may_begin, begins_in_digits}

-- a word of a claim stands for a full name: with any bytes for each *, or, without quotes, in hexadecimal digits
abbrev pub names : ClaimWord → List ℕ → Bool
names w name = is_match (map name_item w.text.items) name || (not w.is_quoted && is_in_digits w.text.items name)

-- a word of a claim may stand for a full name that begins so
abbrev pub may_name : ClaimWord → List ℕ → Bool
may_name w front = may_begin front w.text.items || (not w.is_quoted && begins_in_digits w.text.items front)

-- the text ends with a *, and what stands before it stands for a front of this one: it stands for each name that begins so
abbrev pub covers : List ℕ → List ℕ → Bool
covers [] front = false
covers (b ∷ text) [] = is_nil text && b == 42
covers (b ∷ text) (d ∷ front) = if is_nil text then b == 42 else b == d && covers text front
