-- Cells by row and class.
use Rattle.std.proofs.Common.{◌≡◌, ℕ, ◌+◌, ◌*◌, ◌<◌, ◌≤◌, List, [], ◌∷◌, ◌++◌, length, get_or, suc, sym, ap, ◌∙◌, subst, ⊎_elim, arith, length-append}
use Rattle.std.proofs.Math.Nat.{mul-le-mul_left, mul-suc}
use Rattle.std.proofs.lemmas.List.{get_or_append_left, get_or_push, length_push}
use Rattle.std.proofs.lemmas.Bool.{cases_lt}
use Rattle.aa_auto.specs.declared.net.Net.{Net}
use Rattle.aa_auto.specs.Nets.{kept_of}
use Rattle.aa_auto.specs.Spots.{IsSpotsOf}
use Rattle.aa_auto.specs.Cells.{AreCellsBy}
use Rattle.aa_auto.specs.Explored.{Goes, AreFilled, Extends}

pub row_more : (w r : ℕ) → w * (r + 1) ≡ w * r + w
row_more w r = let e : r + 1 ≡ suc r = omega arith in ap (λ z. w * z) e ∙ mul-suc w r

-- a later row begins behind the cells of an earlier one
pub cell_below : (w r s c : ℕ) → r < s → c < w → w * r + c < w * s
cell_below w r s c lt few =
    let le : r + 1 ≤ s = omega arith in
    let more : w * (r + 1) ≤ w * s = mul-le-mul_left w le in
    let next : w * (r + 1) ≡ w * r + w = row_more w r in
    let goal : w * r + c < w * s = below (w * r) (w * s) (w * (r + 1)) next more in goal
  where
    below : (a b d : ℕ) → d ≡ a + w → d ≤ b → a + c < b
    below a b d e l = omega arith

pub row_order : (w r s c d : ℕ) → c < w → d < w → w * r + c ≤ w * s + d → r ≤ s
row_order w r s c d few few' le =
    ⊎_elim
    (λ (lt : s < r). absurd (clash (w * r) (w * s) (cell_below w s r d lt few') le))
    (λ g. g)
    (cases_lt s r)
  where
    clash : (a b : ℕ) → b + d < a → a + c ≤ b + d → ⊥
    clash a b l m = omega arith

pub cell_unique : (w r s c d : ℕ) → c < w → d < w → w * r + c ≡ w * s + d → (r ≡ s) × (c ≡ d)
cell_unique w r s c d few few' e =
    let le : w * r + c ≤ w * s + d = from_same (w * r + c) (w * s + d) e in
    let ge : w * s + d ≤ w * r + c = from_same (w * s + d) (w * r + c) (sym e) in
    let one = row_order w r s c d few few' le in
    let two = row_order w s r d c few' few ge in
    let same : r ≡ s = omega (arith, one, two) in
    (same, rest (w * r) (w * s) (ap (λ z. w * z) same) e)
  where
    from_same : (a b : ℕ) → a ≡ b → a ≤ b
    from_same a b q = omega arith

    rest : (a b : ℕ) → a ≡ b → a + c ≡ b + d → c ≡ d
    rest a b p q = omega arith

-- the cells stay right where what the bytes go to does
pub cells_on : (G H : ℕ → ℕ → ℕ → Type 0) (bytes cells : List ℕ) (row : ℕ) → length cells ≡ length bytes * row → ((r b n : ℕ) → r ≤ row → G r b n → H r b n) →
    AreCellsBy G bytes cells → AreCellsBy H bytes cells
cells_on G H bytes cells row many on filled r c lt_c l =
    on r (get_or bytes c 0) (get_or cells (length bytes * r + c) 0) (row_order (length bytes) r row c c lt_c lt_c (at_most (length bytes * r + c) (length bytes * row) (length cells) many l)) (filled r c lt_c l)
  where
    at_most : (a b d : ℕ) → d ≡ b → a < d → a ≤ b + c
    at_most a b d e lt = omega arith

-- one more cell
pub cells_more : (G H : ℕ → ℕ → ℕ → Type 0) (bytes cells : List ℕ) (row class byte next : ℕ) → length cells ≡ length bytes * row + class → class < length bytes →
    byte ≡ get_or bytes class 0 → ((r b n : ℕ) → r ≤ row → G r b n → H r b n) → AreCellsBy G bytes cells → H row byte next → AreCellsBy H bytes (cells ++ next ∷ [])
cells_more G H bytes cells row class byte next many few is on filled goes r c lt_c lt =
    ⊎_elim
    (λ (l : length bytes * r + c < length cells).
    let before : r ≤ row = row_order (length bytes) r row c class lt_c few (at_most (length bytes * r + c) (length bytes * row + class) (length cells) many l) in
    subst (λ z. H r (get_or bytes c 0) z) (sym (get_or_append_left cells (next ∷ []) 0 (length bytes * r + c) l))
    (on r (get_or bytes c 0) (get_or cells (length bytes * r + c) 0) before (filled r c lt_c l)))
    (λ (g : length cells ≤ length bytes * r + c).
    let last : length bytes * r + c ≡ length cells = end (length bytes * r + c) (length cells) (length (cells ++ next ∷ [])) (length_push cells next) lt g in
    let same = cell_unique (length bytes) r row c class lt_c few (last ∙ many) in
    subst (λ z. H r (get_or bytes c 0) z) (sym (get_or_push cells next 0 (length bytes * r + c) (sym last)))
    (subst (λ z. H z (get_or bytes c 0) next) (sym same.0) (subst (λ z. H row z next) (is ∙ ap (λ z. get_or bytes z 0) (sym same.1)) goes)))
    (cases_lt (length bytes * r + c) (length cells))
  where
    at_most : (a b d : ℕ) → d ≡ b → a < d → a ≤ b
    at_most a b d e l = omega arith

    end : (a d m : ℕ) → m ≡ d + 1 → a < m → d ≤ a → a ≡ d
    end a d m e l h = omega arith

module _ (net : Net) (old new : List (List ℕ)) (more : Extends old new) where
  pub kept : (r : ℕ) → r < length old → get_or new r [] ≡ get_or old r []
  kept r lt = ap (λ z. get_or z r []) more.1 ∙ get_or_append_left old more.0 [] r lt

  pub longer : length old ≤ length new
  longer = omega (arith, ap length more.1, length-append old more.0)

  pub goes_on : (row byte next : ℕ) → row < length old → Goes net old row byte next → Goes net new row byte next
  goes_on row byte next lt goes = record {
    within = omega (arith, goes.within, longer);
    step = λ s set. subst (λ z. IsSpotsOf (kept_of net) z (s ++ byte ∷ [])) (sym (kept next goes.within)) (goes.step s (subst (λ z. IsSpotsOf (kept_of net) z s) (kept row lt) set));
  }

  pub filled_on : (bytes cells : List ℕ) (row : ℕ) → length cells ≡ length bytes * row → row < length old → AreFilled net old bytes cells → AreFilled net new bytes cells
  filled_on bytes cells row many within filled = cells_on (Goes net old) (Goes net new) bytes cells row many (λ r b n le goes. goes_on r b n (omega (arith, le, within)) goes) filled

  pub filled_more : (bytes cells : List ℕ) (row class byte next : ℕ) → length cells ≡ length bytes * row + class → class < length bytes → byte ≡ get_or bytes class 0 → row < length old →
      AreFilled net old bytes cells → Goes net new row byte next → AreFilled net new bytes (cells ++ next ∷ [])
  filled_more bytes cells row class byte next many few is within filled goes =
      cells_more (Goes net old) (Goes net new) bytes cells row class byte next many few is (λ r b n le goes. goes_on r b n (omega (arith, le, within)) goes) filled goes
