-- The texts that are built from their numbers.
use Rattle.std.specs.Prelude.{ℕ, suc, ◌+◌, ◌<◌, ◌≤◌, ◌≡◌, ◌⊎◌, List, [], ◌∷◌, ◌++◌, length, reverse, slice_index_or, Option, Some, None, zero}
use Rattle.aa_glob.specs.declared.building.Rest.{Rest}
use Rattle.aa_glob.specs.Variables.{Variable, values_of}
use Rattle.aa_glob.specs.Pieces.{Piece, Plain, Use, Broken, pieces, pieces_from}
use Rattle.aa_glob.specs.Known.{Table, AreKnown}
use Rattle.aa_glob.specs.Expansions.{Outcome, Texts, Stops, Deeper, joined, in_turn, outcome}

-- the text, or both are too long
abbrev pub IsBuilt : List ℕ → List ℕ → Type 0
IsBuilt text t = (text ≡ t) ⊎ ((16384 < length text) × (16384 < length t))

-- the pieces of what is left of a text
abbrev pub pieces_of : Rest → List Piece
pieces_of f = pieces_from f.kept 0 f.text.now

-- the text of that number
abbrev pub text_of : Outcome → ℕ → List ℕ
text_of (Texts most ts) number = slice_index_or ts number []
text_of (Stops fault) number = []
text_of Deeper number = []

-- the text with that number of what is left
abbrev pub text_at : ℕ → List Variable → Rest → List ℕ
text_at depth vars f = text_of (joined (outcome depth vars) (pieces_of f)) f.number

-- at that depth, the rest has so many texts, and t is that of its number
pub record Stands (depth : ℕ) (vars : List Variable) (f : Rest) (t : List ℕ) : Type 0 where
  pub most : ℕ
  pub ts : List (List ℕ)
  pub texts : joined (outcome depth vars) (pieces_of f) ≡ Texts most ts
  pub few : most ≤ 1024
  pub count : length ts ≡ f.count
  pub within : f.number < f.count
  pub is : slice_index_or ts f.number [] ≡ t

-- at that depth, the values have these texts, and one of that number
pub record HasTexts (depth : ℕ) (vars : List Variable) (values ts : List (List ℕ)) (number : ℕ) : Type 0 where
  pub most : ℕ
  pub texts : in_turn (outcome depth vars) values ≡ Texts most ts
  pub few : most ≤ 1024
  pub short : length ts ≤ 1024
  pub within : number < length ts

-- what the stack's texts are together, the highest first: each may go a level deeper than the one above, and what it needs is known
abbrev pub Waits : Table → ℕ → List Variable → List Rest → List ℕ → Type 0
Waits done level vars [] u = u ≡ []
Waits done level vars (f ∷ fs) u =
    (a : List ℕ) × (b : List ℕ) × Stands (suc level) vars f a × AreKnown done (pieces_of f) × Waits done (suc level) vars fs b × (u ≡ a ++ b)

-- What is built so far and what the stack stands for make the text.
pub record IsBuilding (depth : ℕ) (vars : List Variable) (done : Table) (text : List ℕ) (stack : List Rest) (top : Rest) (t : List ℕ) : Type 0 where
  pub level : ℕ
  pub deep : level + length stack ≡ depth
  pub now : List ℕ
  pub later : List ℕ
  pub stands : Stands level vars top now
  pub known : AreKnown done (pieces_of top)
  pub waits : Waits done level vars (reverse stack) later
  pub is : t ≡ text ++ (now ++ later)

-- the steps of pieces, where `of` gives those of a variable
abbrev pub steps : (List ℕ → ℕ) → List Piece → ℕ
steps of [] = 0
steps of (Plain b ∷ ps) = suc (steps of ps)
steps of (Use name ∷ ps) = suc (suc (of name + steps of ps))
steps of (Broken ∷ ps) = suc (steps of ps)

-- how many steps these texts take
abbrev pub steps_of_texts : (List ℕ → ℕ) → List (List ℕ) → ℕ
steps_of_texts of [] = 0
steps_of_texts of (t ∷ ts) = steps of (pieces t) + steps_of_texts of ts

-- how many steps the values of a variable take
abbrev pub steps_of_values : (List ℕ → ℕ) → Option (List (List ℕ)) → ℕ
steps_of_values of None = 0
steps_of_values of (Some values) = steps_of_texts of values

-- the steps of a variable with all its values, at most so deep
abbrev pub steps_of_variable : ℕ → List Variable → List ℕ → ℕ
steps_of_variable zero vars name = 0
steps_of_variable (suc depth) vars name = steps_of_values (steps_of_variable depth vars) (values_of vars name)

-- how many steps what is left of a text takes
abbrev pub steps_of_rest : ℕ → List Variable → Rest → ℕ
steps_of_rest level vars f = steps (steps_of_variable level vars) (pieces_of f)

-- how many steps all that is left takes
abbrev pub steps_of_stack : ℕ → List Variable → List Rest → ℕ
steps_of_stack level vars [] = 0
steps_of_stack level vars (f ∷ fs) = suc (steps_of_rest (suc level) vars f + steps_of_stack (suc level) vars fs)

-- the steps that are left, where the top may go so deep
abbrev pub steps_left : ℕ → List Variable → List Rest → Rest → ℕ
steps_left level vars stack top = steps_of_rest level vars top + steps_of_stack level vars (reverse stack)
