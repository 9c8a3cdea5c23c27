-- Lists of numbers that rows share.
use Rattle.std.proofs.Common.{◌≡◌, ℕ, ◌+◌, ◌<◌, ◌≤◌, ◌⊎◌, Bool, true, false, cond, List, [], ◌∷◌, ◌++◌, map, length}
use Rattle.std.proofs.Common.{get_or, suc, zero, All, Contains, Vec, Global, refl, sym, ap, ◌∙◌, subst, inl, inr, ⊎_elim, arith, length-append}
use Rattle.std.proofs.Common.{append_assoc}
use Rattle.std.proofs.lemmas.List.{get_or_append_left, get_or_push, get_or_default, length-map, map-append}
use Rattle.std.proofs.lemmas.List.Elements.{All-nil, All-push, All-weaker, Contains-push, Contains-append_left}
use Rattle.std.proofs.lemmas.Bool.{cases_lt}
use Rattle.aa_auto.specs.Apart.{IsApart}
use Rattle.aa_auto.specs.Listed.{Listing, IsListing, AddsRow, row_lists}
use Rattle.aa_auto.proofs.JumpLemmas.{lists}

abbrev none : Listing
none = record { lists = []; listed = [] }

pub no_rows : IsListing none
no_rows = record {
  within = All-nil (λ n. n < 0);
  apart = λ i j li lj e. absurd (omega (arith, li));
  used = λ n lt. absurd (omega (arith, lt));
  few = omega arith;
}

pub many_rows : (l : Listing) → length (row_lists l) ≡ length l.listed
many_rows l = length-map l.listed (λ n. get_or l.lists n [])

-- the list of a row is the one with its number
at_row : (lists : List (List ℕ)) (listed : List ℕ) (row : ℕ) → row < length listed → get_or (map (λ n. get_or lists n []) listed) row [] ≡ get_or lists (get_or listed row 0) []
at_row lists [] row lt = absurd (omega arith)
at_row lists (n ∷ listed) zero lt = refl
at_row lists (n ∷ listed) (suc row) lt = at_row lists listed row (omega arith)

pub row_list : (l : Listing) (row : ℕ) → row < length l.listed → get_or (row_lists l) row [] ≡ get_or l.lists (get_or l.listed row 0) []
row_list l row lt = at_row l.lists l.listed row lt

pub number_within : (l : Listing) → IsListing l → (row : ℕ) → row < length l.listed → get_or l.listed row 0 < length l.lists
number_within l is row lt = is.within row 0 lt

pub some_row : (l : Listing) → IsListing l → (n : ℕ) → n < length l.lists → (row : ℕ) × (row < length l.listed) × (get_or l.listed row 0 ≡ n)
some_row l is n lt =
    let c = is.used n lt in
    (c.0, c.1, get_or_default l.listed c.0 0 n c.1 ∙ c.2)

-- longer lists leave the rows' lists as they are
same_rows : (old new : List (List ℕ)) → ((n : ℕ) → n < length old → get_or new n [] ≡ get_or old n []) → (listed : List ℕ) → ((row : ℕ) → row < length listed → get_or listed row 0 < length old) →
    map (λ n. get_or new n []) listed ≡ map (λ n. get_or old n []) listed
same_rows old new same [] within = refl
same_rows old new same (n ∷ listed) within =
    ap (λ z. z ∷ map (λ n. get_or new n []) listed) (same n (within 0 (omega arith)))
    ∙ ap (λ z. get_or old n [] ∷ z) (same_rows old new same listed (λ row lt. within (suc row) (omega (arith, lt))))

module _ (old new : Listing) (numbers : List ℕ) (n : ℕ) (is : IsListing old) (grown : (new.lists ≡ old.lists) ⊎ (new.lists ≡ old.lists ++ numbers ∷ []))
    (at : (n < length new.lists) × (get_or new.lists n [] ≡ numbers)) (pushed : new.listed ≡ old.listed ++ n ∷ []) (apart : IsApart new.lists) where
  kept : (k : ℕ) → k < length old.lists → get_or new.lists k [] ≡ get_or old.lists k []
  kept k lt = ⊎_elim (λ e. ap (λ z. get_or z k []) e) (λ e. ap (λ z. get_or z k []) e ∙ get_or_append_left old.lists (numbers ∷ []) [] k lt) grown

  longer : (length old.lists ≤ length new.lists) × (length new.lists ≤ length old.lists + 1)
  longer = ⊎_elim
      (λ (e : new.lists ≡ old.lists). (omega (arith, ap length e), omega (arith, ap length e)))
      (λ (e : new.lists ≡ old.lists ++ numbers ∷ []). (omega (arith, ap length e, length-append old.lists (numbers ∷ [])), omega (arith, ap length e, length-append old.lists (numbers ∷ []))))
      grown

  row_more : length new.listed ≡ length old.listed + 1
  row_more = omega (arith, ap length pushed, length-append old.listed (n ∷ []))

  used : (k : ℕ) → k < length new.lists → Contains new.listed k
  used k lt = subst (λ z. Contains z k) (sym pushed) (⊎_elim
      (λ (l : k < length old.lists). Contains-append_left old.listed (n ∷ []) k (is.used k l))
      (λ (g : length old.lists ≤ k). subst (λ z. Contains (old.listed ++ n ∷ []) z) (last g) (Contains-push old.listed n))
      (cases_lt k (length old.lists)))
    where
      last : length old.lists ≤ k → n ≡ k
      last g = ⊎_elim
          (λ (e : new.lists ≡ old.lists). absurd (omega (arith, ap length e, lt)))
          (λ (e : new.lists ≡ old.lists ++ numbers ∷ []).
          let here : length old.lists ≡ k = omega (arith, ap length e, length-append old.lists (numbers ∷ []), lt) in
          apart n k at.0 lt (at.1 ∙ sym (ap (λ z. get_or z k []) e ∙ get_or_push old.lists numbers [] k here)))
          grown

  rows_kept : map (λ k. get_or new.lists k []) old.listed ≡ row_lists old
  rows_kept = same_rows old.lists new.lists kept old.listed (number_within old is)

  pub adds_row : AddsRow old new numbers
  adds_row = record {
    listing = record {
      within = subst (All (λ k. k < length new.lists)) (sym pushed)
          (All-push (λ k. k < length new.lists) old.listed n (All-weaker (λ k. k < length old.lists) (λ k. k < length new.lists) (λ k lt. omega (arith, lt, longer.0)) old.listed is.within) at.0);
      apart = apart;
      used = used;
      few = omega (arith, is.few, longer.1, row_more);
    };
    lists = ap (map (λ k. get_or new.lists k [])) pushed ∙ map-append (λ k. get_or new.lists k []) old.listed (n ∷ []) ∙ ap (λ z. z ++ get_or new.lists n [] ∷ []) rows_kept
        ∙ ap (λ z. row_lists old ++ z ∷ []) at.1;
  }

-- either is shown by the flag
pub grown_by : (b : Bool) (old new : List (List ℕ)) (numbers : List ℕ) → new ≡ cond b (old ++ numbers ∷ []) old → (new ≡ old) ⊎ (new ≡ old ++ numbers ∷ [])
grown_by true old new numbers e = inr e
grown_by false old new numbers e = inl e

-- one more of the lists is moved, maybe to another place
pub moved_on : (vs pushed was rest : List (Vec ℕ Global)) (v w : Vec ℕ Global) → pushed ≡ vs ++ w ∷ [] → w.items ≡ v.items → was ≡ v ∷ rest → lists pushed ++ lists rest ≡ lists vs ++ lists was
moved_on vs pushed was rest v w e same next =
    ap (λ z. lists z ++ lists rest) e
    ∙ ap (λ z. z ++ lists rest) (map-append (λ (u : Vec ℕ Global). u.items) vs (w ∷ []))
    ∙ append_assoc (lists vs) (w.items ∷ []) (lists rest)
    ∙ ap (λ i. lists vs ++ i ∷ lists rest) same
    ∙ sym (ap (λ z. lists vs ++ lists z) next)
