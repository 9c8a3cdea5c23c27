-- Texts that are appended one after another.
use Rattle.std.proofs.Common.{◌≡◌, ℕ, List, ◌++◌, append_assoc}

-- five of them
pub five_texts : (old a b c d e one two three four : List ℕ) → one ≡ old ++ a → two ≡ one ++ b → three ≡ two ++ c → four ≡ three ++ d
    → four ++ e ≡ old ++ (a ++ b ++ c ++ d ++ e)
five_texts old a b c d e one two three four f g h i = rw (i, h, g, f) (simp append_assoc)
