-- Texts that are made of several.
use Rattle.std.proofs.Common.{◌≡◌, ℕ, List, ◌++◌, ap, ◌∙◌, append_assoc}

pub two : (o a b t1 t2 : List ℕ) → t1 ≡ o ++ a → t2 ≡ t1 ++ b → t2 ≡ o ++ (a ++ b)
two o a b t1 t2 e1 e2 = e2 ∙ (ap (λ (l : List ℕ). l ++ b) e1 ∙ append_assoc o a b)

pub three : (o a b c t1 t2 t3 : List ℕ) → t1 ≡ o ++ a → t2 ≡ t1 ++ b → t3 ≡ t2 ++ c → t3 ≡ o ++ ((a ++ b) ++ c)
three o a b c t1 t2 t3 e1 e2 e3 = e3 ∙ (ap (λ (l : List ℕ). l ++ c) (two o a b t1 t2 e1 e2) ∙ append_assoc o (a ++ b) c)

regroup : (o a v r m n : List ℕ) → ((((o ++ a) ++ v) ++ r) ++ m) ++ n ≡ o ++ ((((a ++ v) ++ r) ++ m) ++ n)
regroup o a v r m n = simp append_assoc

pub five : (o a v r m n t1 t2 t3 t4 t5 : List ℕ) → t1 ≡ o ++ a → t2 ≡ t1 ++ v → t3 ≡ t2 ++ r → t4 ≡ t3 ++ m → t5 ≡ t4 ++ n → t5 ≡ o ++ ((((a ++ v) ++ r) ++ m) ++ n)
five o a v r m n t1 t2 t3 t4 t5 e1 e2 e3 e4 e5 =
    e5 ∙ (ap (λ (l : List ℕ). l ++ n) (e4 ∙ ap (λ (l : List ℕ). l ++ m) (e3 ∙ ap (λ (l : List ℕ). l ++ r) (e2 ∙ ap (λ (l : List ℕ). l ++ v) e1))) ∙ regroup o a v r m n)
