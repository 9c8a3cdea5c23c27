-- The includes of a text by itself, whatever they open.
-- Source: apparmor.d(5), "#include mechanism".
use Rattle.std.specs.Prelude.{ℕ, ◌+◌, ◌≡◌, ◌⊎◌, List, [], ◌∷◌, ◌++◌, length, Bool, true, false, if◌then◌else◌, Option, None}
use Rattle.aa_words.specs.declared.piece.Place.{Place}
use Rattle.aa_words.specs.Splits.{Part, spelled, start, piece_at, is_include}
use Rattle.aa_words.specs.Stops.{LeadTo}

-- an include: its first byte, and its text
pub record IncludeData : Type 0 where
  pub byte : ℕ
  pub text : List ℕ

-- the include that a part of a text is, if it is one
abbrev pub include_from : ℕ → Part → List IncludeData
include_from at p = if is_include p.kind then record { byte = at; text = p.text } ∷ [] else []

-- the includes among pieces, of which the first begins at this byte
abbrev pub includes_from : ℕ → List Part → List IncludeData
includes_from at [] = []
includes_from at (p ∷ ps) = include_from at p ++ includes_from (at + length p.text) ps

-- the text is cut into pieces up to a place, and these are the includes among them
pub record HasIncludesTo (text : List ℕ) (place : Place) (at : ℕ) (rest : List ℕ) (found : List IncludeData) : Type 0 where
  pub parts : List Part
  pub whole : text ≡ spelled parts ++ rest
  pub leads : LeadTo start parts rest place
  pub place_is : at ≡ length (spelled parts)
  pub includes : found ≡ includes_from 0 parts

-- the includes of a text, in order, up to its end or to where no piece stands
pub record HasIncludes (text : List ℕ) (found : List IncludeData) : Type 0 where
  pub place : Place
  pub at : ℕ
  pub rest : List ℕ
  pub cut : HasIncludesTo text place at rest found
  pub breaks : (rest ≡ []) ⊎ (piece_at place rest ≡ None)
