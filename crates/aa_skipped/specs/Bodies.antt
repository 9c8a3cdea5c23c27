-- Words without those that stand in bodies.
-- Source: apparmor.d(5), "Format"; own.
use Rattle.std.specs.Prelude.{ℕ, ◌+◌, ◌-◌, ◌==◌, List, [], ◌∷◌, ◌++◌, Bool, if◌then◌else◌}
use Rattle.aa_words.specs.declared.word.WordKind.{WordKind}
use Rattle.aa_words.specs.declared.word.WordKind.TheVariants.{Open, Close}
use Rattle.aa_words.specs.Splits.{WordData}

-- how many bodies are open behind a word
abbrev pub open_after : ℕ → WordKind → ℕ
open_after n Open = n + 1
open_after n Close = n - 1
open_after n _ = n

-- a word stands in no body; the braces of an outermost body stand outside of it
abbrev pub stands_outside : ℕ → WordKind → Bool
stands_outside n Close = n - 1 == 0
stands_outside n _ = n == 0

-- the word, if it does
abbrev pub if_outside : ℕ → WordData → List WordData
if_outside n w = if stands_outside n w.kind then w ∷ [] else []

-- words without those in bodies, where so many are open before them
unfoldable pub without_bodies : ℕ → List WordData → List WordData
without_bodies n [] = []
without_bodies n (w ∷ ws) = if_outside n w ++ without_bodies (open_after n w.kind) ws
