-- The words that a text's lines are.
-- Source: own.
use Rattle.std.specs.Prelude.{ℕ, ◌==◌, List, [], ◌∷◌, map, flat_map, Vec}
use Rattle.std.specs.List.{slice_split}
use Rattle.std.specs.declared.alloc.Global.{Global}
use Rattle.aa_text.specs.Excerpts.{without_return}

-- what the lists hold
abbrev pub texts : List (Vec ℕ Global) → List (List ℕ)
texts words = map (λ w. w.items) words

-- a word, unless it is empty
abbrev pub word_if : List ℕ → List (List ℕ)
word_if [] = []
word_if (b ∷ bs) = (b ∷ bs) ∷ []

-- a line is a word, unless it is empty; a CR before its end is none of its bytes
abbrev pub word_of : List ℕ → List (List ℕ)
word_of line = word_if (without_return line)

-- the lines of a text that aren't empty, in their order
abbrev pub word_lines : List ℕ → List (List ℕ)
word_lines text = flat_map word_of (slice_split (λ b. b == 10) text)
