-- What a browser reads where a text stands, and where that text ends.
-- Source: HTML, "Tokenization", the states of data, of quoted values and of character references; own.
use Rattle.std.specs.Prelude.{◌≡◌, ℕ, List, [], ◌∷◌, ◌++◌, ◌==◌, ◌||◌, codes, Bool, true, Option, Some, None, option_map, if◌then◌else◌}
use Rattle.std.specs.Str.{bytes_eq}
use Rattle.aa_page.specs.Escaped.{escaped}

-- the byte that a reference of this name stands for
abbrev pub referred : List ℕ → Option ℕ
referred name =
    if bytes_eq name (codes "lt") then Some 60 else (if bytes_eq name (codes "gt") then Some 62 else (if bytes_eq name (codes "amp") then Some 38
    else (if bytes_eq name (codes "quot") then Some 34 else (if bytes_eq name (codes "#39") then Some 39 else None))))

-- a byte that begins or ends a tag, or an attribute's value
abbrev pub is_mark : ℕ → Bool
is_mark b = b == 60 || b == 62 || b == 34 || b == 39

-- a text that is read, and what stands behind it: nothing, or a mark first
pub record Read : Type 0 where
  pub text : List ℕ
  pub rest : List ℕ

-- a byte more at its head
abbrev pub behind : ℕ → Read → Read
behind b r = record { text = b ∷ r.text; rest = r.rest }

-- the byte of a reference, if it is one, and what is read behind it
abbrev pub behind_reference : Option ℕ → Option Read → Option Read
behind_reference None r = None
behind_reference (Some b) r = option_map (behind b) r

-- what is read up to the first mark, in a reference of which this front of its name stands before, or in none; nothing where a
-- reference is none of the five, or isn't ended
abbrev pub read_in : Option (List ℕ) → List ℕ → Option Read
read_in None [] = Some (record { text = []; rest = [] })
read_in (Some name) [] = None
read_in None (b ∷ bs) =
    if b == 38 then read_in (Some []) bs else (if is_mark b then Some (record { text = []; rest = b ∷ bs }) else option_map (behind b) (read_in None bs))
read_in (Some name) (b ∷ bs) = if b == 59 then behind_reference (referred name) (read_in None bs) else read_in (Some (name ++ b ∷ [])) bs

-- Each text, as it stands on a page, is read as that text, up to the mark behind it or the end: no byte of it begins or ends a tag or
-- a value, and each & in it begins one of the five references.
pub record TextsEndAtMarks : Type 0 where
  pub before_mark : (text : List ℕ) (mark : ℕ) (rest : List ℕ) → is_mark mark ≡ true
      → read_in None (escaped text ++ mark ∷ rest) ≡ Some (record { text = text; rest = mark ∷ rest })
  pub at_end : (text : List ℕ) → read_in None (escaped text) ≡ Some (record { text = text; rest = [] })
