-- A text that is written in pieces.
use Rattle.std.proofs.Common.{◌≡◌, ℕ, ◌+◌, ◌-◌, List, ◌++◌, length, take, drop, sym, ap, ◌∙◌, Option, Some, None}
use Rattle.std.specs.Io.KnownBytes.{Keeps, Appends}
use Rattle.std.proofs.Math.Seq.{take-add}
use Rattle.aa_words.proofs.Extents.{to_end}

-- n more bytes of the rest
pub more : (s : List ℕ) (at n : ℕ) → take (at + n) s ≡ take at s ++ take n (take (length s - at) (drop at s))
more s at n = take-add at n s ∙ ap (λ (r : List ℕ). take at s ++ take n r) (sym (to_end s at))

-- what is added behind kept bytes is added behind those
pub kept_first : (a b c : Option (List ℕ)) (bs : List ℕ) → Keeps a b → Appends b c bs → Appends a c bs
kept_first None b c bs k e = tt
kept_first (Some xs) None c bs k e = absurd k
kept_first (Some xs) (Some ys) None bs k e = absurd e
kept_first (Some xs) (Some ys) (Some zs) bs k e = e ∙ ap (λ (l : List ℕ). l ++ bs) k

pub kept_on : (a b c : Option (List ℕ)) → Keeps a b → Keeps b c → Keeps a c
kept_on None b c k e = tt
kept_on (Some xs) None c k e = absurd k
kept_on (Some xs) (Some ys) None k e = absurd e
kept_on (Some xs) (Some ys) (Some zs) k e = e ∙ k
