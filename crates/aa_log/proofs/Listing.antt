-- Lists whose items stand with a comma between two of them.
use Rattle.std.proofs.Common.{◌≡◌, ◌∙◌, ℕ, List, [], ◌∷◌, ◌++◌, ◌||◌, Bool, true, false, refl, sym, ap, append_assoc}
use Rattle.aa_text.specs.Jsons.{behind_commas, more_of}
use Rattle.aa_log.specs.Commas.{is_some_of}

behind_both : (xs ys : List (List ℕ)) → behind_commas (xs ++ ys) ≡ behind_commas xs ++ behind_commas ys
behind_both [] ys = refl
behind_both (x ∷ xs) ys = ap (λ (l : List ℕ). (44 ∷ x) ++ l) (behind_both xs ys) ∙ sym (append_assoc (44 ∷ x) (behind_commas xs) (behind_commas ys))

-- some of them, and then the others
pub more_both : (later : Bool) (xs ys : List (List ℕ)) → more_of later (xs ++ ys) ≡ more_of later xs ++ more_of (later || is_some_of xs) ys
more_both true xs ys = behind_both xs ys
more_both false [] ys = refl
more_both false (x ∷ xs) ys = ap (λ (l : List ℕ). x ++ l) (behind_both xs ys) ∙ sym (append_assoc x (behind_commas xs) (behind_commas ys))

pub some_both : (xs ys : List (List ℕ)) → is_some_of (xs ++ ys) ≡ (is_some_of xs || is_some_of ys)
some_both [] ys = refl
some_both (x ∷ xs) ys = refl

or_both : (a b d : Bool) → ((a || b) || d) ≡ (a || (b || d))
or_both true b d = refl
or_both false b d = refl

-- two parts of a list, written one after the other
pub two_parts : (later mark : Bool) (out mid new : List ℕ) (xs ys : List (List ℕ)) → mid ≡ out ++ more_of later xs → mark ≡ (later || is_some_of xs) → new ≡ mid ++ more_of mark ys → new ≡ out ++ more_of later (xs ++ ys)
two_parts later mark out mid new xs ys first is second =
    second ∙ ap (λ (l : List ℕ). l ++ more_of mark ys) first ∙ append_assoc out (more_of later xs) (more_of mark ys)
    ∙ ap (λ (b : Bool). out ++ (more_of later xs ++ more_of b ys)) is ∙ ap (λ (l : List ℕ). out ++ l) (sym (more_both later xs ys))

pub two_later : (later mark last : Bool) (xs ys : List (List ℕ)) → mark ≡ (later || is_some_of xs) → last ≡ (mark || is_some_of ys) → last ≡ (later || is_some_of (xs ++ ys))
two_later later mark last xs ys is e = e ∙ ap (λ (b : Bool). b || is_some_of ys) is ∙ or_both later (is_some_of xs) (is_some_of ys) ∙ ap (λ (b : Bool). later || b) (sym (some_both xs ys))
