-- Places that are counted from earlier ones.
use Rattle.std.proofs.Common.{◌≡◌, ℕ, zero, suc, ◌+◌, ◌*◌, ◌<◌, ◌≤◌, Bool, true, false, ◌||◌, not, List, [], ◌∷◌, ◌++◌}
use Rattle.std.proofs.Common.{length, take, get_or, cond, min, refl, sym, ap, ◌∙◌, arith, inl, inr, Some}
use Rattle.std.specs.Prelude.{slice_get}
use Rattle.std.specs.List.{list_any, count_by}
use Rattle.std.proofs.lemmas.Bool.{cases_lt}
use Rattle.std.proofs.lemmas.List.{length-take, length-append, take_all, take_more}
use Rattle.std.proofs.lemmas.Option.{slice_get_within, get_or_from_slice_get}
use Rattle.std.proofs.lemmas.List.Folds.{list_any-append}
use Rattle.std.proofs.lemmas.List.Sums.{sum_by-append, count_by-le-length}
use Rattle.aa_text.specs.declared.place.Place.{Place}
use Rattle.aa_text.specs.Places.{is_line_end, goes_on, begins_character, last_line, place_behind, place_in}
use Rattle.aa_text.specs.Kept.{AreKept}
use Rattle.aa_text.proofs.Lines.{last_le}
use Rattle.aa_text.proofs.Rising.{last_append}

abbrev pub at : ℕ → ℕ → Place
at line column = record { line = line; column = column }

alike : (a b c d : ℕ) → a ≡ b → c ≡ d → at a c ≡ at b d
alike a b c d e f = cc

-- one byte more passes a test, or doesn't
count_yes : (p : ℕ → Bool) (xs : List ℕ) (b : ℕ) → p b ≡ true → count_by p (xs ++ b ∷ []) ≡ count_by p xs + 1
count_yes p xs b e =
    let one : ◌≡◌ {A = ℕ} (cond (p b) 1 0) 1 = ap (λ (t : Bool). cond t 1 0) e in
    omega (arith, sum_by-append (λ c. cond (p c) 1 0) xs (b ∷ []), one)

count_no : (p : ℕ → Bool) (xs : List ℕ) (b : ℕ) → p b ≡ false → count_by p (xs ++ b ∷ []) ≡ count_by p xs
count_no p xs b e =
    let none : ◌≡◌ {A = ℕ} (cond (p b) 1 0) 0 = ap (λ (t : Bool). cond t 1 0) e in
    omega (arith, sum_by-append (λ c. cond (p c) 1 0) xs (b ∷ []), none)

or_true : (a : Bool) → (a || true) ≡ true
or_true true = refl
or_true false = refl

any_end : (xs : List ℕ) (b : ℕ) → is_line_end b ≡ true → list_any is_line_end (xs ++ b ∷ []) ≡ true
any_end xs b e =
    list_any-append is_line_end xs (b ∷ []) ∙ ap (λ (t : Bool). list_any is_line_end xs || (t || false)) e ∙ or_true (list_any is_line_end xs)

-- nothing stands behind a line end
last_end : (xs : List ℕ) (b : ℕ) → is_line_end b ≡ true → last_line (xs ++ b ∷ []) ≡ []
unfolding last_line
last_end [] b e = ap (λ (t : Bool). cond t [] (b ∷ [])) e
last_end (x ∷ xs) b e =
    ap (λ (t : Bool). cond t (last_line (xs ++ b ∷ [])) (cond (is_line_end x) (xs ++ b ∷ []) (x ∷ (xs ++ b ∷ [])))) (any_end xs b e)
    ∙ last_end xs b e

last_more : (xs : List ℕ) (b : ℕ) → is_line_end b ≡ false → last_line (xs ++ b ∷ []) ≡ last_line xs ++ b ∷ []
last_more xs b e = last_append xs (b ∷ []) (ap (λ (t : Bool). t || false) e)

-- the place behind a line end, behind a byte that goes on with a character, and behind one that begins one
pub line_next : (xs : List ℕ) (b : ℕ) (p : Place) → p ≡ place_behind xs → is_line_end b ≡ true
    → at (p.line + 1) 1 ≡ place_behind (xs ++ b ∷ [])
unfolding place_behind
line_next xs b p is e =
    ap (λ (q : Place). at (q.line + 1) 1) is
    ∙ alike _ _ _ _ (ap (λ (n : ℕ). n + 1) (sym (count_yes is_line_end xs b e)))
    (ap (λ (l : List ℕ). count_by begins_character l + 1) (sym (last_end xs b e)))

pub same_next : (xs : List ℕ) (b : ℕ) (p : Place) → p ≡ place_behind xs → is_line_end b ≡ false → goes_on b ≡ true
    → p ≡ place_behind (xs ++ b ∷ [])
unfolding place_behind
same_next xs b p is e goes =
    is ∙ alike _ _ _ _ (ap (λ (n : ℕ). n + 1) (sym (count_no is_line_end xs b e)))
    (sym (ap (λ (l : List ℕ). count_by begins_character l + 1) (last_more xs b e)
    ∙ ap (λ (n : ℕ). n + 1) (count_no begins_character (last_line xs) b (ap not goes))))

pub column_next : (xs : List ℕ) (b : ℕ) (p : Place) → p ≡ place_behind xs → is_line_end b ≡ false → goes_on b ≡ false
    → at p.line (p.column + 1) ≡ place_behind (xs ++ b ∷ [])
unfolding place_behind
column_next xs b p is e begins =
    ap (λ (q : Place). at q.line (q.column + 1)) is
    ∙ alike _ _ _ _ (ap (λ (n : ℕ). n + 1) (sym (count_no is_line_end xs b e)))
    (sym (ap (λ (l : List ℕ). count_by begins_character l + 1) (last_more xs b e)
    ∙ ap (λ (n : ℕ). n + 1) (count_yes begins_character (last_line xs) b (ap not begins))))

-- a place is told by small numbers
pub line_small : (text : List ℕ) (n : ℕ) (p : Place) → p ≡ place_in text n → p.line ≤ n + 1
unfolding place_behind
line_small text n p is = omega (arith, ap (λ (q : Place). q.line) is, count_by-le-length is_line_end (take n text), length-take n text)

pub column_small : (text : List ℕ) (n : ℕ) (p : Place) → p ≡ place_in text n → p.column ≤ n + 1
unfolding place_behind
column_small text n p is =
    omega (arith, ap (λ (q : Place). q.column) is, count_by-le-length begins_character (last_line (take n text)), last_le (take n text), length-take n text)

-- the place one byte on
pub place_on : (text : List ℕ) (n b : ℕ) (p next : Place) → n < length text → b ≡ get_or text n 0
    → ((before : List ℕ) → p ≡ place_behind before → next ≡ place_behind (before ++ b ∷ [])) → p ≡ place_in text n
    → next ≡ place_in text (n + 1)
place_on text n b p next lt byte so is =
    so (take n text) is ∙ ap (λ (c : ℕ). place_behind (take n text ++ c ∷ [])) byte ∙ ap place_behind (sym (take_more text n 0 lt))

pub place_first : (text : List ℕ) → at 1 1 ≡ place_in text 0
unfolding place_behind last_line
place_first text = refl

-- behind a text's last byte is its end
pub place_end : (text : List ℕ) (byte end : ℕ) → end ≡ min byte (length text) → place_in text end ≡ place_in text byte
place_end text byte end is = elim (cases_lt byte (length text)) [
  | inl lt ↦ ap (place_in text) (is ∙ (let e : min byte (length text) ≡ byte = omega arith in e))
  | inr le ↦ let e : length text ≤ end = omega arith in ap place_behind (take_all end text e ∙ sym (take_all byte text le))
]

-- what stands before the end stays, and behind it stands what is added
got_before : (xs : List Place) (x v : Place) (k : ℕ) → slice_get xs k ≡ Some v → slice_get (xs ++ x ∷ []) k ≡ Some v
got_before [] x v k e = absurd cc
got_before (y ∷ ys) x v zero e = e
got_before (y ∷ ys) x v (suc k) e = got_before ys x v k e

got_last : (xs : List Place) (x : Place) → slice_get (xs ++ x ∷ []) (length xs) ≡ Some x
got_last [] x = refl
got_last (y ∷ ys) x = got_last ys x

-- those that are kept so far
abbrev pub AreKeptTo : List ℕ → List Place → ℕ → Type 0
AreKeptTo text kept many = (n : ℕ) → n < many → 256 * n ≤ length text → slice_get kept n ≡ Some (place_in text (256 * n))

-- none at first
pub kept_first : (text : List ℕ) (kept : List Place) (p : Place) → kept ≡ [] → p ≡ at 1 1
    → (length kept ≡ 0) × (256 * 0 ≤ length text → p ≡ place_in text (256 * 0)) × AreKeptTo text kept 0
kept_first text kept p none is = (ap length none, λ inside. is ∙ place_first text, λ n less inside. absurd (omega arith))

pub kept_more : (text : List ℕ) (old new : List Place) (p : Place) (many : ℕ) → length old ≡ many → new ≡ old ++ p ∷ []
    → p ≡ place_in text (256 * many) → AreKeptTo text old many → AreKeptTo text new (many + 1)
kept_more text old new p many long pushed is so_far n less inside = elim (cases_lt n many) [
  | inl lt ↦ ap (λ (l : List Place). slice_get l n) pushed ∙ got_before old p (place_in text (256 * n)) n (so_far n lt inside)
  | inr le ↦
      let here : n ≡ many = omega arith in
      ap (λ (l : List Place). slice_get l n) pushed
      ∙ ap (slice_get (old ++ p ∷ [])) (here ∙ sym long)
      ∙ got_last old p
      ∙ ap Some (is ∙ ap (λ (m : ℕ). place_in text (256 * m)) (sym here))
]

pub kept_long : (old new : List Place) (p : Place) (many : ℕ) → length old ≡ many → new ≡ old ++ p ∷ [] → length new ≡ many + 1
kept_long old new p many long pushed = ap length pushed ∙ length-append old (p ∷ []) ∙ ap (λ (n : ℕ). n + 1) long

-- and among them that of a number
pub kept_within : (text : List ℕ) (kept : List Place) (n : ℕ) → AreKept text kept → 256 * n ≤ length text → n < length kept
kept_within text kept n are inside = slice_get_within kept n (place_in text (256 * n)) (are n inside)

pub kept_at : (text : List ℕ) (kept : List Place) (n : ℕ) (p : Place) → AreKept text kept → 256 * n ≤ length text → p ≡ get_or kept n p
    → p ≡ place_in text (256 * n)
kept_at text kept n p are inside is = is ∙ get_or_from_slice_get kept n (place_in text (256 * n)) p (are n inside)

pub kept_all : (text : List ℕ) (kept : List Place) (many : ℕ) → length text < 256 * many → AreKeptTo text kept many → AreKept text kept
kept_all text kept many enough so_far n inside = so_far n (omega arith) inside
