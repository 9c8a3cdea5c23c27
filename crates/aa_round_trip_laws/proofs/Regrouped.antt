-- Texts one behind another, grouped from the right.
use Rattle.std.proofs.Common.{◌≡◌, ℕ, List, ◌++◌, append_assoc}

pub of_three : (a b c : List ℕ) → a ++ b ++ c ≡ a ++ (b ++ c)
of_three a b c = simp append_assoc

pub of_four : (a b c d : List ℕ) → a ++ b ++ c ++ d ≡ a ++ (b ++ (c ++ d))
of_four a b c d = simp append_assoc

pub of_five : (a b c d e : List ℕ) → a ++ b ++ c ++ d ++ e ≡ a ++ (b ++ (c ++ (d ++ e)))
of_five a b c d e = simp append_assoc

pub of_seven : (a b c d e f g : List ℕ) → a ++ b ++ c ++ d ++ e ++ f ++ g ≡ a ++ (b ++ (c ++ (d ++ (e ++ (f ++ g)))))
of_seven a b c d e f g = simp append_assoc

pub of_nine : (a b c d e f g h i : List ℕ) → a ++ b ++ c ++ d ++ e ++ f ++ g ++ h ++ i ≡ a ++ (b ++ (c ++ (d ++ (e ++ (f ++ (g ++ (h ++ i)))))))
of_nine a b c d e f g h i = simp append_assoc

pub of_eight : (a b c d e f g h : List ℕ) → a ++ b ++ c ++ d ++ e ++ f ++ g ++ h ≡ a ++ (b ++ (c ++ (d ++ (e ++ (f ++ (g ++ h))))))
of_eight a b c d e f g h = simp append_assoc

-- the last goes in
pub with_last : (a b c d e f last : List ℕ) → (a ++ (b ++ (c ++ (d ++ (e ++ f))))) ++ last ≡ a ++ (b ++ (c ++ (d ++ (e ++ (f ++ last)))))
with_last a b c d e f last = simp append_assoc
