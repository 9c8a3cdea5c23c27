-- What is open at a place in a path, byte by byte, and where a path ends.
use Rattle.std.proofs.Common.{◌≡◌, ℕ, zero, suc, ◌+◌, ◌≤◌, ◌==◌, ◌&&◌, ◌||◌, Bool, true, false, not, cond, List, [], ◌∷◌, refl, sym, ap, ◌∙◌, ◌⊎◌, arith, inl, inr}
use Rattle.std.proofs.lemmas.Bool.Decides.{nat_tests}
use Rattle.aa_words.specs.Runs.{path_start, path_next, path_len, ends_path, is_white, ends_after_comma}
use Rattle.aa_language_laws.specs.Places.{is_quoted, EndsFirst}
use Rattle.aa_language_laws.specs.Paths.{is_in_brackets, count_of, IsInBraces, PathEnds}
use Rattle.aa_language_laws.proofs.Firsts.{behind, first}
use Rattle.aa_language_laws.proofs.Quoting.{quoted_step, quoted_none}

kept_next : (p : _) (b : ℕ) → (path_next p b).kept ≡ (b == 92 && not p.kept)
kept_next p b = grind (arith, nat_tests)

kept_is : (back : List ℕ) → (behind path_start path_next back).kept ≡ is_quoted back
unfolding behind
kept_is [] = sym quoted_none
kept_is (b ∷ back) = kept_next (behind path_start path_next back) b ∙ ap (λ (v : Bool). b == 92 && not v) (kept_is back) ∙ sym (quoted_step b back)

class_next : (p : _) (b : ℕ) (q : _) → q ≡ path_next p b → (quoted inside : Bool) → p.kept ≡ quoted → p.in_class ≡ inside → q.in_class ≡ cond ((b == 91 || b == 93) && not quoted) (b == 91) inside
class_next p b q e quoted inside k i = grind (arith, nat_tests)

class_is : (back : List ℕ) → (behind path_start path_next back).in_class ≡ is_in_brackets back
unfolding behind is_in_brackets
class_is [] = refl
class_is (b ∷ back) = class_next (behind path_start path_next back) b _ refl (is_quoted back) (is_in_brackets back) (kept_is back) (class_is back)

-- a byte that counts opens and closes, and another does neither
depth_opens : (p : _) (b : ℕ) (q : _) → q ≡ path_next p b → (quoted inside : Bool) → p.kept ≡ quoted → p.in_class ≡ inside → (l r : ℕ) → l ≤ r + p.depth
    → cond (b == 123 && (not quoted && not inside)) 1 0 + l ≤ cond (b == 125 && (not quoted && not inside)) 1 0 + r + q.depth
depth_opens p b q e quoted inside k i l r h = grind (arith, nat_tests)

-- no stretch opens more braces than are open
opens_few : (n : ℕ) (back : List ℕ) → count_of 123 n back ≤ count_of 125 n back + (behind path_start path_next back).depth
unfolding behind count_of
opens_few zero back = omega arith
opens_few (suc n) [] = omega arith
opens_few (suc n) (b ∷ back) = depth_opens (behind path_start path_next back) b _ refl (is_quoted back) (is_in_brackets back) (kept_is back) (class_is back) (count_of 123 n back) (count_of 125 n back) (opens_few n back)

deep_step : (p : _) (b : ℕ) (q : _) → q ≡ path_next p b → (quoted inside : Bool) → p.kept ≡ quoted → p.in_class ≡ inside → (l r : ℕ) → r + p.depth ≡ l
    → (cond (b == 125 && (not quoted && not inside)) 1 0 + r + q.depth ≡ cond (b == 123 && (not quoted && not inside)) 1 0 + l) ⊎ (q.depth ≡ 0)
deep_step p b q e quoted inside k i l r h = grind (arith, nat_tests)

abbrev IsDeepest : ℕ → List ℕ → Type 0
IsDeepest depth back = (n : ℕ) × (count_of 125 n back + depth ≡ count_of 123 n back)

deeper : (b : ℕ) (back : List ℕ) (n depth : ℕ) → (count_of 125 (suc n) (b ∷ back) + depth ≡ count_of 123 (suc n) (b ∷ back)) ⊎ (depth ≡ 0) → IsDeepest depth (b ∷ back)
unfolding count_of
deeper b back n depth (inl e) = (suc n, e)
deeper b back n depth (inr e) = (zero, omega arith)

-- some stretch opens as many as are open
opens_all : (back : List ℕ) → IsDeepest (behind path_start path_next back).depth back
unfolding behind count_of
opens_all [] = (zero, refl)
opens_all (b ∷ back) =
    let h = opens_all back in
    deeper b back h.0 _ (deep_step (behind path_start path_next back) b _ refl (is_quoted back) (is_in_brackets back) (kept_is back) (class_is back) (count_of 123 h.0 back) (count_of 125 h.0 back) h.1)

none_open : (back : List ℕ) → (behind path_start path_next back).depth ≡ 0 → IsInBraces back → ⊥
none_open back e (n, h) = let few = opens_few n back in omega arith

one_open : (back : List ℕ) → ((behind path_start path_next back).depth ≡ 0 → ⊥) → IsInBraces back
one_open back ne = let h = opens_all back in (h.0, omega (arith, h.1))

-- what ends a path, where so many braces are open
abbrev Ending : ℕ → List ℕ → ℕ → List ℕ → Type 0
Ending depth back b bs =
    (b ≡ 0) ⊎ ((is_quoted back ≡ false) × ((is_white b ≡ true) ⊎ ((b ≡ 34) ⊎ ((b ≡ 44) × (is_in_brackets back ≡ false) × (depth ≡ 0) × (ends_after_comma bs ≡ true)))))

ending : (p : _) (b : ℕ) (bs : List ℕ) → ends_path p b bs ≡ true → (back : List ℕ) → p.kept ≡ is_quoted back → p.in_class ≡ is_in_brackets back → Ending p.depth back b bs
ending p b bs e back k i = grind (arith, nat_tests)

going_on : (p : _) (b : ℕ) (bs : List ℕ) → ends_path p b bs ≡ false → (back : List ℕ) → p.kept ≡ is_quoted back → p.in_class ≡ is_in_brackets back → Ending p.depth back b bs → ⊥
going_on p b bs e back k i h = grind (arith, nat_tests)

stops : (back : List ℕ) (b : ℕ) (bs : List ℕ) → Ending (behind path_start path_next back).depth back b bs → PathEnds back (b ∷ bs)
stops back b bs (inl e) = inl e
stops back b bs (inr (q, inl w)) = inr (q, inl w)
stops back b bs (inr (q, inr (inl w))) = inr (q, inr (inl w))
stops back b bs (inr (q, inr (inr (c, inside, depth, last)))) = inr (q, inr (inr (c, record { outside_brackets = inside; outside_braces = none_open back depth; last = last })))

stopped : (back : List ℕ) (b : ℕ) (bs : List ℕ) → PathEnds back (b ∷ bs) → (Ending (behind path_start path_next back).depth back b bs → ⊥) → ⊥
stopped back b bs (inl e) goes = goes (inl e)
stopped back b bs (inr (q, inl w)) goes = goes (inr (q, inl w))
stopped back b bs (inr (q, inr (inl w))) goes = goes (inr (q, inr (inl w)))
stopped back b bs (inr (q, inr (inr (c, e)))) goes = e.outside_braces (one_open back (λ depth. goes (inr (q, inr (inr (c, e.outside_brackets, depth, e.last))))))

pub ends_there : (back : List ℕ) (b : ℕ) (bs : List ℕ) → ends_path (behind path_start path_next back) b bs ≡ true → PathEnds back (b ∷ bs)
ends_there back b bs e = stops back b bs (ending (behind path_start path_next back) b bs e back (kept_is back) (class_is back))

pub goes_on_there : (back : List ℕ) (b : ℕ) (bs : List ℕ) → ends_path (behind path_start path_next back) b bs ≡ false → PathEnds back (b ∷ bs) → ⊥
goes_on_there back b bs e h = stopped back b bs h (going_on (behind path_start path_next back) b bs e back (kept_is back) (class_is back))

nil : (back : List ℕ) → path_len (behind path_start path_next back) [] ≡ 0
unfolding path_len
nil back = refl

step : (back : List ℕ) (b : ℕ) (bs : List ℕ) → path_len (behind path_start path_next back) (b ∷ bs) ≡ cond (ends_path (behind path_start path_next back) b bs) 0 (suc (path_len (behind path_start path_next (b ∷ back)) bs))
unfolding path_len behind
step back b bs = refl

pub paths_first : (text : List ℕ) → EndsFirst PathEnds text (path_len path_start text)
unfolding behind
paths_first = first (λ back text. path_len (behind path_start path_next back) text) (λ back b bs. ends_path (behind path_start path_next back) b bs) PathEnds nil step (λ back. tt) ends_there goes_on_there
