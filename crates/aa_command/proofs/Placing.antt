-- Texts and units with their places, one after another.
use Rattle.std.proofs.Common.{◌≡◌, ℕ, zero, suc, ◌+◌, ◌<◌, ◌≤◌, List, [], ◌∷◌, ◌++◌, length, take, get_or, refl, sym, ap, ◌∙◌, arith, inl, inr, Some}
use Rattle.std.specs.Prelude.{slice_get}
use Rattle.std.proofs.lemmas.Bool.{cases_lt}
use Rattle.std.proofs.lemmas.List.{take_more, take_all, length-append}
use Rattle.std.proofs.lemmas.Option.{get_or_from_slice_get}
use Rattle.aa_text.specs.declared.place.Place.{Place}
use Rattle.aa_text.specs.declared.position.PlaceAt.{PlaceAt}
use Rattle.aa_text.specs.Places.{place_in}
use Rattle.aa_files.specs.declared.unit.Unit as unit
use Rattle.aa_files.specs.Numbers.{text_in}
use Rattle.aa_command.specs.Placed.{AreItsTexts}

got_before : (xs : List (List ℕ)) (x v : List ℕ) (k : ℕ) → slice_get xs k ≡ Some v → slice_get (xs ++ x ∷ []) k ≡ Some v
got_before [] x v k e = absurd cc
got_before (y ∷ ys) x v zero e = e
got_before (y ∷ ys) x v (suc k) e = got_before ys x v k e

got_last : (xs : List (List ℕ)) (x : List ℕ) → slice_get (xs ++ x ∷ []) (length xs) ≡ Some x
got_last [] x = refl
got_last (y ∷ ys) x = got_last ys x

-- one text more
pub text_more : (u : unit.Unit) (old new : List (List ℕ)) (text : List ℕ) (number : ℕ) → length old ≡ number → new ≡ old ++ text ∷ []
    → text ≡ text_in u number → AreItsTexts u old → AreItsTexts u new
text_more u old new text number long pushed is so_far n less = elim (cases_lt n number) [
  | inl lt ↦ ap (λ (l : List (List ℕ)). slice_get l n) pushed ∙ got_before old text (text_in u n) n (so_far n (omega arith))
  | inr le ↦
      let there : length new ≡ length old + 1 = ap length pushed ∙ length-append old (text ∷ []) in
      let here : n ≡ number = omega arith in
      ap (λ (l : List (List ℕ)). slice_get l n) pushed
      ∙ ap (slice_get (old ++ text ∷ [])) (here ∙ sym long)
      ∙ got_last old text
      ∙ ap Some (is ∙ ap (text_in u) (sym here))
]

pub one_more : (old new : List (List ℕ)) (text : List ℕ) (number : ℕ) → length old ≡ number → new ≡ old ++ text ∷ []
    → length new ≡ number + 1
one_more old new text number long pushed = ap length pushed ∙ length-append old (text ∷ []) ∙ ap (λ (n : ℕ). n + 1) long

-- that of a number
text_got : (u : unit.Unit) (placed items : List (List ℕ)) (n : ℕ) (text : List ℕ) → items ≡ placed → n < length items
    → text ≡ get_or items n text → AreItsTexts u placed → text ≡ text_in u n
text_got u placed items n text same lt got are =
    let inside : n < length placed = omega (arith, lt, ap length same) in
    got ∙ ap (λ (l : List (List ℕ)). get_or l n text) same ∙ get_or_from_slice_get placed n (text_in u n) text (are n inside)

-- and where a byte of it stands
abbrev at : ℕ → ℕ → ℕ → PlaceAt
at line column byte = record { line = line; column = column; byte = byte }

pub placed_in : (u seen : unit.Unit) (placed items : List (List ℕ)) (n byte : ℕ) (text : List ℕ) (place : Place) → u ≡ seen → items ≡ placed
    → n < length items → text ≡ get_or items n text → AreItsTexts u placed → place ≡ place_in text byte
    → at place.line place.column byte ≡ at ((place_in (text_in seen n) byte).line) ((place_in (text_in seen n) byte).column) byte
placed_in u seen placed items n byte text place is same lt got are there =
    ap (λ (p : Place). at p.line p.column byte)
    (there ∙ ap (λ (t : List ℕ). place_in t byte) (text_got u placed items n text same lt got are ∙ ap (λ (v : unit.Unit). text_in v n) is))

-- one unit more
pub unit_more : (units : List unit.Unit) (i : ℕ) (u placed : unit.Unit) (old new : List unit.Unit) → i < length units → u ≡ get_or units i u
    → placed ≡ u → new ≡ old ++ placed ∷ [] → old ≡ take i units → new ≡ take (i + 1) units
unit_more units i u placed old new lt item is pushed so_far =
    pushed ∙ ap (λ (l : List unit.Unit). l ++ placed ∷ []) so_far ∙ ap (λ (x : unit.Unit). take i units ++ x ∷ []) (is ∙ item)
    ∙ sym (take_more units i u lt)

pub units_all : (units : List unit.Unit) (i : ℕ) (placed : List unit.Unit) → length units ≤ i → placed ≡ take i units → placed ≡ units
units_all units i placed le is = is ∙ take_all i units le
