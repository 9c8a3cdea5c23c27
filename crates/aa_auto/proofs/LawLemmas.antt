-- Bytes that no item tells apart lead to the same places.
use Rattle.std.proofs.Common.{◌≡◌, ℕ, ◌↔◌, ◌⊎◌, Some, List, [], ◌∷◌, ◌++◌, take, suc, zero, slice_get, All, refl, sym, ap, ◌∙◌, subst, inl, inr, ⊎_elim, append_assoc}
use Rattle.std.proofs.lemmas.List.{append-nil}
use Rattle.std.proofs.lemmas.List.Elements.{All-nil, All-cons, All-head, All-tail}
use Rattle.aa_pattern.specs.declared.item.Item.{Item, Byte, One, Run, RunOne, Deep, DeepOne, Class, Choice', Row_of-Item, end_of-Item, more_of-Item}
use Rattle.aa_pattern.specs.declared.item.Item.{items-the_row-Item, Row_of-Item-Choice-0-1, end_of-Item-Choice-0-1, more_of-Item-Choice-0-1}
use Rattle.aa_pattern.specs.declared.pattern.Pattern.{Pattern}
use Rattle.aa_pattern.specs.Globs.{Allows, SomeAllows, AllAllow, Matches, sequences, branches_of}
use Rattle.aa_pattern.specs.Places.{Position, Gap, Within, IsHead, IsPlace, SamePlaces}
use Rattle.aa_pattern.specs.Steps.{Begins, Continues, IsSimple}
use Rattle.aa_auto.specs.Classes.{IsSameFor, IsSameForBranches, IsSameForRow, IsSameForItems, IsSame}
use Rattle.aa_pattern.proofs.Equivalences.{↔_sym}
use Rattle.aa_pattern.proofs.Texts.{IsPart, allows_part}
use Rattle.aa_auto.proofs.SameLemmas.{same_simple, same_row}

-- a text that ends in a byte, cut in two
cut_end : (s x y : List ℕ) (a : ℕ) → s ++ a ∷ [] ≡ x ++ y → ((y ≡ []) × (x ≡ s ++ a ∷ [])) ⊎ ((z : List ℕ) × (y ≡ z ++ a ∷ []) × (s ≡ x ++ z))
cut_end s [] y a e = inr (s, sym e, refl)
cut_end [] (c ∷ x) y a e =
    let q : x ++ y ≡ [] = cc e in
    let r = both_empty x y q in
    inl (r.1, ap (λ z. c ∷ z) r.0 ∙ first)
  where
    both_empty : (u v : List ℕ) → u ++ v ≡ [] → (u ≡ []) × (v ≡ [])
    both_empty [] v h = (refl, h)
    both_empty (w ∷ u) v h = absurd (cc h)

    first : c ∷ [] ≡ a ∷ []
    first = cc e
cut_end (d ∷ s) (c ∷ x) y a e =
    let h : d ≡ c = cc e in
    let t : s ++ a ∷ [] ≡ x ++ y = cc e in
    ⊎_elim
    (λ (p : (y ≡ []) × (x ≡ s ++ a ∷ [])). inl (p.0, cc (h, p.1)))
    (λ (p : (z : List ℕ) × (y ≡ z ++ a ∷ []) × (s ≡ x ++ z)). inr (p.0, p.1, cc (h, p.2)))
    (cut_end s x y a t)

module _ (a b : ℕ) where
  same_part : (i : Item) → ((Begins i a ↔ Begins i b) × (Continues i a ↔ Continues i b)) → (s : List ℕ) → IsPart i (s ++ a ∷ []) → IsPart i (s ++ b ∷ [])
  same_part i same [] p = (same.0.0 p.0, All-nil (Continues i))
  same_part i same (c ∷ s) p = (p.0, at s p.1)
    where
      at : (u : List ℕ) → All (Continues i) (u ++ a ∷ []) → All (Continues i) (u ++ b ∷ [])
      at [] all = All-cons (Continues i) b [] (same.1.0 (All-head (Continues i) a [] all)) (All-nil (Continues i))
      at (x ∷ u) all = All-cons (Continues i) x (u ++ b ∷ []) (All-head (Continues i) x (u ++ a ∷ []) all) (at u (All-tail (Continues i) x (u ++ a ∷ []) all))

  same_item : (i : Item) → IsSimple i → IsSameFor i a b → (s : List ℕ) → Allows i (s ++ a ∷ []) → Allows i (s ++ b ∷ [])
  same_item i simple same s m = (allows_part i (s ++ b ∷ []) simple).1 (same_part i ((same_simple a b i simple).1 same) s ((allows_part i (s ++ a ∷ []) simple).0 m))

  mutual
    same_allows : (i : Item) → IsSameFor i a b → (s : List ℕ) → Allows i (s ++ a ∷ []) → Allows i (s ++ b ∷ [])
    same_allows (Byte c) same s m = same_item (Byte c) tt same s m
    same_allows One same s m = same_item One tt same s m
    same_allows Run same s m = same_item Run tt same s m
    same_allows RunOne same s m = same_item RunOne tt same s m
    same_allows Deep same s m = same_item Deep tt same s m
    same_allows DeepOne same s m = same_item DeepOne tt same s m
    same_allows (Class set) same s m = same_item (Class set) tt same s m
    same_allows (Choice' _ branches) same s m = same_some branches same s m

    same_some : {n : _} (rows : Row_of-Item-Choice-0-1 n) → IsSameForBranches rows a b → (s : List ℕ) → SomeAllows rows (s ++ a ∷ []) → SomeAllows rows (s ++ b ∷ [])
    same_some end_of-Item-Choice-0-1 same s m = absurd m
    same_some (more_of-Item-Choice-0-1 shape branch rest) same s m =
        ⊎_elim (λ h. inl (same_all branch same.0 s h)) (λ h. inr (same_some rest same.1 s h)) m

    same_all : {n : _} (row : Row_of-Item n) → IsSameForRow row a b → (s : List ℕ) → AllAllow row (s ++ a ∷ []) → AllAllow row (s ++ b ∷ [])
    same_all end_of-Item same s m = absurd (nothing s m)
      where
        nothing : (c : List ℕ) → c ++ a ∷ [] ≡ [] → ⊥
        nothing [] e = cc e
        nothing (x ∷ c) e = cc e
    same_all (more_of-Item item rest) same s m =
        ⊎_elim
        (λ (p : (m.1 ≡ []) × (m.0 ≡ s ++ a ∷ [])).
        (s ++ b ∷ [], [], sym (append-nil (s ++ b ∷ [])), same_allows item same.0 s (subst (λ z. Allows item z) p.1 m.3), subst (λ z. AllAllow rest z) p.0 m.4))
        (λ (p : (z : List ℕ) × (m.1 ≡ z ++ a ∷ []) × (s ≡ m.0 ++ z)).
        (m.0, p.0 ++ b ∷ [], ap (λ z. z ++ b ∷ []) p.2 ∙ append_assoc m.0 p.0 (b ∷ []), m.3, same_all rest same.1 p.0 (subst (λ z. AllAllow rest z) p.1 m.4)))
        (cut_end s m.0 m.1 a m.2)

  same_matches : (items : List Item) → IsSameForItems items a b → (s : List ℕ) → Matches items (s ++ a ∷ []) → Matches items (s ++ b ∷ [])
  same_matches [] same s m = absurd (nothing s m)
    where
      nothing : (c : List ℕ) → c ++ a ∷ [] ≡ [] → ⊥
      nothing [] e = cc e
      nothing (x ∷ c) e = cc e
  same_matches (item ∷ rest) same s m =
      ⊎_elim
      (λ (p : (m.1 ≡ []) × (m.0 ≡ s ++ a ∷ [])).
      (s ++ b ∷ [], [], sym (append-nil (s ++ b ∷ [])), same_allows item same.0 s (subst (λ z. Allows item z) p.1 m.3), subst (λ z. Matches rest z) p.0 m.4))
      (λ (p : (z : List ℕ) × (m.1 ≡ z ++ a ∷ []) × (s ≡ m.0 ++ z)).
      (m.0, p.0 ++ b ∷ [], ap (λ z. z ++ b ∷ []) p.2 ∙ append_assoc m.0 p.0 (b ∷ []), m.3, same_matches rest same.1 p.0 (subst (λ z. Matches rest z) p.1 m.4)))
      (cut_end s m.0 m.1 a m.2)

  same_take : (i : ℕ) (items : List Item) → IsSameForItems items a b → IsSameForItems (take i items) a b
  same_take zero items same = tt
  same_take (suc i) [] same = tt
  same_take (suc i) (x ∷ items) same = (same.0, same_take i items same.1)

  same_append : (xs ys : List Item) → IsSameForItems xs a b → IsSameForItems ys a b → IsSameForItems (xs ++ ys) a b
  same_append [] ys p q = q
  same_append (x ∷ xs) ys p q = (p.0, same_append xs ys p.1 q)

  same_at : (items : List Item) (i : ℕ) (item : Item) → slice_get items i ≡ Some item → IsSameForItems items a b → IsSameFor item a b
  same_at [] i item e same = absurd (cc e)
  same_at (x ∷ items) zero item e same = let q : x ≡ item = cc e in subst (λ z. IsSameFor z a b) q same.0
  same_at (x ∷ items) (suc i) item e same = same_at items i item e same.1

  same_sequence : {n : _} (rows : Row_of-Item-Choice-0-1 n) (j : ℕ) (branch : List Item) → slice_get (sequences rows) j ≡ Some branch → IsSameForBranches rows a b → IsSameForItems branch a b
  same_sequence end_of-Item-Choice-0-1 j branch e same = absurd (cc e)
  same_sequence (more_of-Item-Choice-0-1 shape row rest) zero branch e same =
      let q : items-the_row-Item _ row ≡ branch = cc e in subst (λ z. IsSameForItems z a b) q ((same_row a b row).0 same.0)
  same_sequence (more_of-Item-Choice-0-1 shape row rest) (suc j) branch e same = same_sequence rest j branch e same.1

  same_branch : (item : Item) (j : ℕ) (branch : List Item) → slice_get (branches_of item) j ≡ Some branch → IsSameFor item a b → IsSameForItems branch a b
  same_branch (Byte c) j branch e same = absurd (cc e)
  same_branch One j branch e same = absurd (cc e)
  same_branch Run j branch e same = absurd (cc e)
  same_branch RunOne j branch e same = absurd (cc e)
  same_branch Deep j branch e same = absurd (cc e)
  same_branch DeepOne j branch e same = absurd (cc e)
  same_branch (Class set) j branch e same = absurd (cc e)
  same_branch (Choice' _ rows) j branch e same = same_sequence rows j branch e same

  same_head : (q : Position) (items h : List Item) → IsHead items q h → IsSameForItems items a b → IsSameForItems h a b
  same_head (Gap i) items h head same = subst (λ z. IsSameForItems z a b) (sym head.1) (same_take i items same)
  same_head (Within i j q) items h head same =
      subst (λ z. IsSameForItems z a b) (sym head.6)
      (same_append (take i items) head.2 (same_take i items same)
      (same_head q head.1 head.2 head.5 (same_branch head.0 j head.1 head.4 (same_at items i head.0 head.3 same))))

  same_pattern : (ps : List Pattern) (n : ℕ) (p : Pattern) → slice_get ps n ≡ Some p → IsSame ps a b → IsSameForItems p.items.items a b
  same_pattern [] n p e same = absurd (cc e)
  same_pattern (x ∷ ps) zero p e same = let q : x ≡ p = cc e in subst (λ (z : Pattern). IsSameForItems z.items.items a b) q same.0
  same_pattern (x ∷ ps) (suc n) p e same = same_pattern ps n p e same.1

  pub same_place : (ps : List Pattern) → IsSame ps a b → (s : List ℕ) (n : ℕ) (q : Position) → IsPlace ps (s ++ a ∷ []) n q → IsPlace ps (s ++ b ∷ []) n q
  same_place ps same s n q place =
      (place.0, place.1, place.2, place.3, same_matches place.1 (same_head q place.0.items.items place.1 place.3 (same_pattern ps n place.0 place.2 same)) s place.4)

pub same_back_items : (a b : ℕ) (i : Item) → ((Begins i a ↔ Begins i b) × (Continues i a ↔ Continues i b)) → ((Begins i b ↔ Begins i a) × (Continues i b ↔ Continues i a))
same_back_items a b i s = (↔_sym s.0, ↔_sym s.1)

module _ (a b : ℕ) where
  mutual
    back_for : (i : Item) → IsSameFor i a b → IsSameFor i b a
    back_for (Byte c) s = same_back_items a b (Byte c) s
    back_for One s = same_back_items a b One s
    back_for Run s = same_back_items a b Run s
    back_for RunOne s = same_back_items a b RunOne s
    back_for Deep s = same_back_items a b Deep s
    back_for DeepOne s = same_back_items a b DeepOne s
    back_for (Class set) s = same_back_items a b (Class set) s
    back_for (Choice' _ branches) s = back_some branches s

    back_some : {n : _} (rows : Row_of-Item-Choice-0-1 n) → IsSameForBranches rows a b → IsSameForBranches rows b a
    back_some end_of-Item-Choice-0-1 s = tt
    back_some (more_of-Item-Choice-0-1 shape branch rest) s = (back_all branch s.0, back_some rest s.1)

    back_all : {n : _} (row : Row_of-Item n) → IsSameForRow row a b → IsSameForRow row b a
    back_all end_of-Item s = tt
    back_all (more_of-Item item rest) s = (back_for item s.0, back_all rest s.1)

  back_items : (items : List Item) → IsSameForItems items a b → IsSameForItems items b a
  back_items [] s = tt
  back_items (i ∷ items) s = (back_for i s.0, back_items items s.1)

  pub same_back : (ps : List Pattern) → IsSame ps a b → IsSame ps b a
  same_back [] s = tt
  same_back (p ∷ ps) s = (back_items p.items.items s.0, same_back ps s.1)

-- the law
pub same_bytes : (ps : List Pattern) (a b : ℕ) → IsSame ps a b → (s : List ℕ) → SamePlaces ps (s ++ a ∷ []) (s ++ b ∷ [])
same_bytes ps a b same s n q = (same_place a b ps same s n q, same_place b a ps (same_back a b ps same) s n q)
