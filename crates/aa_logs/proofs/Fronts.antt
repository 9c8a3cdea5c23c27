-- Known texts, by how they begin and how long they are.
use Rattle.std.proofs.Common.{◌≡◌, ℕ, Bool, true, false, List, length, take, refl, sym, ◌∙◌, arith}
use Rattle.std.specs.Prelude.{nat_eq}
use Rattle.std.specs.List.{starts_with}
use Rattle.std.specs.Str.{bytes_eq}
use Rattle.std.proofs.lemmas.List.{take_all}
use Rattle.std.proofs.lemmas.Slice.Eq.{bytes_eq-Decides}

-- tests of which each holds where the other does
alike : (p q : Bool) → (p ≡ true → q ≡ true) → (q ≡ true → p ≡ true) → p ≡ q
alike true true f g = refl
alike true false f g = sym (f refl)
alike false true f g = g refl
alike false false f g = refl

-- of texts of one length the one that begins as the other is that one
pub text_is : (text wanted : List ℕ) → length text ≡ length wanted → starts_with nat_eq text wanted ≡ bytes_eq text wanted
text_is text wanted e =
    let whole : take (length wanted) text ≡ text = take_all (length wanted) text (omega (arith, e)) in
    let front = bytes_eq-Decides wanted (take (length wanted) text) in
    let same = bytes_eq-Decides text wanted in
    alike _ _ (λ h. same.1 (sym (front.0 h ∙ whole))) (λ h. front.1 (sym (same.0 h) ∙ sym whole))
