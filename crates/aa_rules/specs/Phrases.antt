-- What the productions of the grammar are made of.
use Rattle.std.specs.Prelude.{ℕ, ◌≡◌, List, [], ◌∷◌, Bool, true, false}
use Rattle.std.specs.Str.{bytes_eq}
use Rattle.aa_base.specs.declared.fault.Spot.{Spot}
use Rattle.aa_words.specs.declared.word.WordKind.{WordKind}
use Rattle.aa_words.specs.declared.word.WordKind.TheVariants.{Path, Name, Quoted}
use Rattle.aa_words.specs.Splits.{WordData}

-- a production: which words it takes from the front, what they say, and what is left
abbrev pub Production : Type 0 → Type 1
Production X = List WordData → X → List WordData → Type 0

-- where a repetition ends, and what is left behind its end
abbrev pub Ending : Type 1
Ending = List WordData → List WordData → Type 0

-- any number of elements, and then the end
abbrev pub Many : {X : Type 0} → Production X → Ending → List WordData → List X → List WordData → Type 0
Many Is Ends ws [] rest = Ends ws rest
Many Is Ends ws (x ∷ xs) rest = (after : List WordData) × Is ws x after × Many Is Ends after xs rest

-- elements stand first, whatever follows
abbrev pub Here : Ending
Here ws rest = rest ≡ ws

-- the words begin with one of this kind, and the rest follows
pub record Starts (kind : WordKind) (ws : List WordData) (w : WordData) (rest : List WordData) : Type 0 where
  pub words : ws ≡ w ∷ rest
  pub kind_is : w.kind ≡ kind

-- no word of this kind stands there
abbrev pub Lacks : WordKind → List WordData → Type 0
Lacks kind ws = (w : WordData) (rest : List WordData) → Starts kind ws w rest → ⊥

-- a path by itself or in quotes
abbrev pub is_path_kind : WordKind → Bool
is_path_kind Path = true
is_path_kind Quoted = true
is_path_kind _ = false

-- what can name a profile: a name, or a path by itself or in quotes
abbrev pub is_name_kind : WordKind → Bool
is_name_kind Name = true
is_name_kind kind = is_path_kind kind

-- the words begin with one of these kinds, and the rest follows
pub record StartsAs (fits : WordKind → Bool) (ws : List WordData) (w : WordData) (rest : List WordData) : Type 0 where
  pub words : ws ≡ w ∷ rest
  pub kind_fits : fits w.kind ≡ true

-- no word of these kinds stands there
abbrev pub LacksAll : (WordKind → Bool) → List WordData → Type 0
LacksAll fits ws = (w : WordData) (rest : List WordData) → StartsAs fits ws w rest → ⊥

-- whether such a word stands there
abbrev pub begins_as : (WordKind → Bool) → List WordData → Bool
begins_as fits [] = false
begins_as fits (w ∷ ws) = fits w.kind

-- the place of a word
abbrev pub spot_of : WordData → Spot
spot_of w = record { file = w.span.file; byte = w.span.start }

-- where a refusal at the first of these words points: at that word, or behind the text
abbrev pub place_of : List WordData → Spot → Spot
place_of [] end = end
place_of (w ∷ ws) end = spot_of w

-- the words begin with this name
pub record Keyword (text : List ℕ) (ws : List WordData) (rest : List WordData) : Type 0 where
  pub word : WordData
  pub stands : Starts Name ws word rest
  pub is_it : bytes_eq word.text text ≡ true

-- another word stands there
abbrev pub LacksKeyword : List ℕ → List WordData → Type 0
LacksKeyword text ws = (rest : List WordData) → Keyword text ws rest → ⊥

-- [keyword]: whether it stands there
abbrev pub Optional : List ℕ → List WordData → Bool → List WordData → Type 0
Optional text ws true rest = Keyword text ws rest
Optional text ws false rest = (rest ≡ ws) × LacksKeyword text ws
