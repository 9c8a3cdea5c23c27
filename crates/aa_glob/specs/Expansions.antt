-- The expansions of a text, and why there are none.
-- Source: own.
use Rattle.std.specs.Prelude.{ℕ, zero, suc, ◌<◌, ◌≤◌, ◌==◌, ◌&&◌, ◌||◌, ◌≡◌, Bool, true, false, List, [], ◌∷◌, ◌++◌}
use Rattle.std.specs.Prelude.{map, flat_map, length, max, codes, if◌then◌else◌, nat_lt, Option, Some, None, Result, Ok, Err}
use Rattle.std.specs.Str.{bytes_eq}
use Rattle.aa_base.specs.declared.fault.PolicyKind.{PolicyKind}
use Rattle.aa_base.specs.declared.fault.PolicyKind.TheVariants.{BadPattern, Unsupported, UndefinedVariable, VariableCircle, TooManyExpansions, RelativePath, TooLarge}
use Rattle.aa_glob.specs.declared.sign.Token.{Token}
use Rattle.aa_glob.specs.Pieces.{Piece, Plain, Use, Broken, pieces, begins_with}
use Rattle.aa_glob.specs.Variables.{Variable, values_of}
use Rattle.aa_glob.specs.Reading.{tokens}

-- What a walk of a text comes to, left to right and into the values depth first: its texts, with the most texts that a
-- variable on the way has; the first fault; or, where it goes no deeper than it may, neither.
pub data Outcome : Type 0 where
  Texts : (most : ℕ) → List (List ℕ) → Outcome
  Stops : PolicyKind → Outcome
  Deeper : Outcome

-- where both come to texts, those of f
abbrev pub both : (ℕ → List (List ℕ) → ℕ → List (List ℕ) → Outcome) → Outcome → Outcome → Outcome
both f (Stops fault) next = Stops fault
both f Deeper next = Deeper
both f (Texts m ts) (Stops fault) = Stops fault
both f (Texts m ts) Deeper = Deeper
both f (Texts m ts) (Texts n us) = f m ts n us

-- each text of the first followed by each of the second
abbrev pub followed : Outcome → Outcome → Outcome
followed = both (λ m ts n us. Texts (max m n) (flat_map (λ t. map (λ u. t ++ u) us) ts))

-- the texts of the first and then those of the second
abbrev pub and_then : Outcome → Outcome → Outcome
and_then = both (λ m ts n us. Texts (max m n) (ts ++ us))

-- the outcome of one piece, where `of` gives that of a variable
abbrev pub alone : (List ℕ → Outcome) → Piece → Outcome
alone of (Plain b) = Texts 0 ((b ∷ []) ∷ [])
alone of (Use name) = of name
alone of Broken = Stops BadPattern

-- the outcome of pieces: the leftmost varies slowest
unfoldable pub joined : (List ℕ → Outcome) → List Piece → Outcome
joined of [] = Texts 0 ([] ∷ [])
joined of (p ∷ ps) = followed (alone of p) (joined of ps)

-- the outcomes of all values in turn
unfoldable pub in_turn : (List ℕ → Outcome) → List (List ℕ) → Outcome
in_turn of [] = Texts 0 []
in_turn of (v ∷ vs) = and_then (joined of (pieces v)) (in_turn of vs)

-- a name that no text can use
abbrev pub is_reserved : List ℕ → Bool
is_reserved name = bytes_eq name (codes "exec_path") || bytes_eq name (codes "profile_name")

-- a variable counts its own texts among those of the variables on the way
abbrev pub counted : Outcome → Outcome
counted (Texts m ts) = Texts (max m (length ts)) ts
counted other = other

-- what the values of a variable come to, one after another
abbrev pub of_values : (List ℕ → Outcome) → Option (List (List ℕ)) → Outcome
of_values of None = Stops UndefinedVariable
of_values of (Some values) = counted (in_turn of values)

-- the outcome of a variable, at most so deep
unfoldable pub outcome : ℕ → List Variable → List ℕ → Outcome
outcome zero vars name = Deeper
outcome (suc depth) vars name = if is_reserved name then Stops Unsupported else of_values (outcome depth vars) (values_of vars name)

-- the outcome of a raw text, at most so deep
abbrev pub outcome_of : ℕ → List Variable → List ℕ → Outcome
outcome_of depth vars raw = joined (outcome depth vars) (pieces raw)

-- each run of / becomes one
unfoldable pub squeezed : Bool → List ℕ → List ℕ
squeezed after [] = []
squeezed after (b ∷ bs) = if after && b == 47 then squeezed true bs else b ∷ squeezed (b == 47) bs

-- the text with each run of / made one
abbrev pub pattern_text : List ℕ → List ℕ
pattern_text text = squeezed false text

-- a pattern of a path begins with /
abbrev pub of_path : List ℕ → Result (List Token) PolicyKind → Result (List Token) PolicyKind
of_path text (Ok ts) = if begins_with 47 text then Ok ts else Err RelativePath
of_path text (Err fault) = Err fault

-- one expansion: how long it is before runs of / are made one, then its reading, then its first byte
unfoldable pub expansion : List ℕ → Result (List Token) PolicyKind
expansion text = if nat_lt 16384 (length text) then Err TooLarge else of_path (pattern_text text) (tokens (pattern_text text))

-- both lists one behind the other, or the first fault
abbrev pub and_more : Result (List Token) PolicyKind → Result (List (List Token)) PolicyKind → Result (List (List Token)) PolicyKind
and_more (Err fault) rest = Err fault
and_more (Ok p) (Err fault) = Err fault
and_more (Ok p) (Ok ps) = Ok (p ∷ ps)

-- all of them, or the first that is refused
unfoldable pub expansions : List (List ℕ) → Result (List (List Token)) PolicyKind
expansions [] = Ok []
expansions (t ∷ ts) = and_more (expansion t) (expansions ts)

-- What a raw text expands to, or why it doesn't. A circle of names is a walk that goes deeper than any depth: with finitely
-- many names this is the case where a name on the way is met again before any other fault.
pub data Expands (vars : List Variable) (raw : List ℕ) : Result (List (List Token)) PolicyKind → Type 0 where
  in_walk : (depth : ℕ) (fault : PolicyKind) → outcome_of depth vars raw ≡ Stops fault → Expands vars raw (Err fault)
  in_circle : ((depth : ℕ) → outcome_of depth vars raw ≡ Deeper) → Expands vars raw (Err VariableCircle)
  too_many : (depth most : ℕ) (ts : List (List ℕ)) → outcome_of depth vars raw ≡ Texts most ts → 1024 < max most (length ts) → Expands vars raw (Err TooManyExpansions)
  as_texts : (depth most : ℕ) (ts : List (List ℕ)) → outcome_of depth vars raw ≡ Texts most ts → max most (length ts) ≤ 1024 → Expands vars raw (expansions ts)

-- it expands to one thing alone
abbrev pub ExpandsOnce : Type 0
ExpandsOnce = (vars : List Variable) (raw : List ℕ) (one other : Result (List (List Token)) PolicyKind) → Expands vars raw one → Expands vars raw other → one ≡ other
