-- Sets of places that are found one after the other.
use Rattle.std.proofs.Common.{◌≡◌, ℕ, ◌+◌, ◌<◌, ◌≤◌, ◌↔◌, ◌⊎◌, List, [], ◌∷◌, ◌++◌, length, get_or, suc, zero}
use Rattle.std.proofs.Common.{slice_get, Some, None, All, refl, sym, ap, ◌∙◌, subst, inl, inr, ⊎_elim, arith, length-append}
use Rattle.std.proofs.lemmas.List.{get_or_append_left, get_or_push, length-map}
use Rattle.std.proofs.lemmas.List.Elements.{All-nil, All-push}
use Rattle.std.proofs.lemmas.Bool.{cases_lt}
use Rattle.aa_pattern.specs.declared.item.Item.{Item}
use Rattle.aa_auto.specs.declared.net.Net.{Net}
use Rattle.aa_auto.specs.Nets.{IsNetOf, patterns_of, heads_of, kept_of}
use Rattle.aa_pattern.specs.Globs.{Matches}
use Rattle.aa_pattern.specs.Places.{SamePlaces}
use Rattle.aa_auto.specs.Apart.{IsApart}
use Rattle.aa_auto.specs.Listed.{Listing, AddsRow, row_lists}
use Rattle.aa_auto.specs.Spots.{IsSpotsOf}
use Rattle.aa_auto.specs.Tables.{IsText, HasPlaces, ListsMatching}
use Rattle.aa_auto.specs.Explored.{Follows, Lists, TakesSet, AreReached, AreListed, Goes}
use Rattle.aa_auto.proofs.ListedLemmas.{many_rows}
use Rattle.aa_auto.proofs.SortedLemmas.{same_rising}
use Rattle.aa_auto.proofs.SpotsLemmas.{same_spots}
use Rattle.aa_auto.proofs.MergeLemmas.{kept_at}
use Rattle.aa_pattern.proofs.PlaceHeads.{In, heads_from_places, places_from_heads}

pub got : {X : Type 0} (xs : List X) (i : ℕ) (x d : X) → slice_get xs i ≡ Some x → (i < length xs) × (get_or xs i d ≡ x)
got [] i x d e = absurd (cc e)
got (y ∷ xs) zero x d e = (omega arith, cc e)
got (y ∷ xs) (suc i) x d e = let r = got xs i x d e in (omega arith, r.1)

heads_at : (hs : List (List Item)) (n : ℕ) → n < length hs → In (get_or hs n []) hs
heads_at [] n lt = absurd (omega arith)
heads_at (h ∷ hs) zero lt = inl refl
heads_at (h ∷ hs) (suc n) lt = inr (heads_at hs n (omega arith))

at_heads : (hs : List (List Item)) (g : List Item) → In g hs → (n : ℕ) × (n < length hs) × (get_or hs n [] ≡ g)
at_heads [] g i = absurd i
at_heads (h ∷ hs) g i = ⊎_elim (λ (e : g ≡ h). (0, omega arith, sym e)) (λ (r : In g hs). let q = at_heads hs g r in (suc q.0, omega (arith, q.1), q.2)) i

-- the texts of the numbers below n
abbrev pub listed : (ℕ → List ℕ) → ℕ → List (List ℕ)
listed f zero = []
listed f (suc n) = listed f n ++ f n ∷ []

pub length-listed : (f : ℕ → List ℕ) (n : ℕ) → length (listed f n) ≡ n
length-listed f zero = refl
length-listed f (suc n) = omega (arith, length-listed f n, length-append (listed f n) (f n ∷ []))

pub get_or-listed : (f : ℕ → List ℕ) (n i : ℕ) → i < n → get_or (listed f n) i [] ≡ f i
get_or-listed f zero i lt = absurd (omega arith)
get_or-listed f (suc n) i lt =
    ⊎_elim
    (λ (l : i < n). get_or_append_left (listed f n) (f n ∷ []) [] i (omega (arith, length-listed f n)) ∙ get_or-listed f n i l)
    (λ (g : n ≤ i). let e : n ≡ i = omega arith in
    subst (λ k. get_or (listed f n ++ f n ∷ []) k [] ≡ f k) e (get_or_push (listed f n) (f n) [] n (length-listed f n)))
    (cases_lt i n)

pub length_kept : (net : Net) → length (kept_of net) ≡ length net.firsts.items
length_kept net = length-map net.firsts.items (λ (f : ℕ). get_or (heads_of net) f [])

module _ (net : Net) where
  same_spot : IsNetOf net → (s t : List ℕ) → SamePlaces (patterns_of net) s t → (n : ℕ) → n < length (kept_of net) →
      Matches (get_or (kept_of net) n []) s ↔ Matches (get_or (kept_of net) n []) t
  same_spot is s t same n lt =
      let l : n < length net.firsts.items = omega (arith, lt, length_kept net) in
      let f : ℕ = get_or net.firsts.items n 0 in
      subst (λ h. Matches h s ↔ Matches h t) (sym (kept_at (heads_of net) net.firsts.items n l))
      (heads_from_places (patterns_of net) s t same (get_or (heads_of net) f []) (heads_at (heads_of net) f (is.inside n 0 l)))

  -- the set of a text is that of each text with the same places
  pub spots_same : IsNetOf net → (x : List ℕ) (s t : List ℕ) → IsSpotsOf (kept_of net) x s → SamePlaces (patterns_of net) s t → IsSpotsOf (kept_of net) x t
  spots_same is x s t p same = record {
    rising = p.rising;
    exact = λ n. (
      λ c. let q = (p.exact n).0 c in (q.0, (same_spot is s t same n q.0).0 q.1),
      λ q. (p.exact n).1 (q.0, (same_spot is s t same n q.0).1 q.1),
    );
  }

  pub same_sets : IsNetOf net → (x y : List ℕ) (s t : List ℕ) → IsSpotsOf (kept_of net) x s → IsSpotsOf (kept_of net) y t → SamePlaces (patterns_of net) s t → x ≡ y
  same_sets is x y s t p q same =
      let r = spots_same is x s t p same in
      same_rising x y p.rising q.rising (λ n c. (q.exact n).1 ((r.exact n).0 c)) (λ n c. (r.exact n).1 ((q.exact n).0 c))

  pub same_places : IsNetOf net → (x : List ℕ) (s t : List ℕ) → IsSpotsOf (kept_of net) x s → IsSpotsOf (kept_of net) x t → SamePlaces (patterns_of net) s t
  same_places is x s t p q = places_from_heads (patterns_of net) s t (λ h i.
      let a = at_heads (heads_of net) h i in
      let m = is.met a.0 a.1 in
      let l : m.0 < length (kept_of net) = omega (arith, m.1, is.many, length_kept net) in
      let both = same_spots (kept_of net) x s t p.exact q.exact m.0 l in
      subst (λ z. Matches z s ↔ Matches z t) a.2 (λ y. (m.2 t).1 (both.0 ((m.2 s).0 y)), λ y. (m.2 s).1 (both.1 ((m.2 t).0 y))))

  pub start_set : (new : List ℕ) → Follows net None [] new → IsSpotsOf (kept_of net) new []
  start_set new follows = follows.spots [] [] refl tt

  pub step_set : (old new : List ℕ) (byte : ℕ) (s : List ℕ) → Follows net (Some byte) old new → IsSpotsOf (kept_of net) old s → IsSpotsOf (kept_of net) new (s ++ byte ∷ [])
  step_set old new byte s follows set = follows.spots s (s ++ byte ∷ []) refl set.exact

  pub first_reached : (sets : List (List ℕ)) (x : List ℕ) → sets ≡ x ∷ [] → IsApart sets → IsSpotsOf (kept_of net) x [] → AreReached net sets
  first_reached sets x e apart set = subst (AreReached net) (sym e) (record {
    some = omega arith;
    start = set;
    reached = only;
    apart = subst IsApart e apart;
  })
    where
      only : (row : ℕ) → row < length (x ∷ []) → (s : List ℕ) × IsText s × IsSpotsOf (kept_of net) (get_or (x ∷ []) row []) s
      only zero lt = ([], All-nil (λ b. b < 256), set)
      only (suc row) lt = absurd (omega arith)

  pub first_found : (was sets : List (List ℕ)) (was_lists lists : Listing) (x : List ℕ) (i : ℕ) → was ≡ [] → was_lists ≡ record { lists = []; listed = [] } → Follows net None [] x → slice_get sets i ≡ Some x →
      TakesSet net x was sets was_lists lists → IsApart sets → AreReached net sets × AreListed net sets lists × (length sets ≡ 1)
  first_found was sets was_lists lists x i none none_lists follows found takes apart =
      ⊎_elim
      (λ (e : (sets ≡ was) × (lists ≡ was_lists)). absurd (cc (subst (λ z. slice_get z i ≡ Some x) (e.0 ∙ none) found)))
      (λ (e : (numbers : List ℕ) × (sets ≡ was ++ x ∷ []) × AddsRow was_lists lists numbers × Lists net x numbers).
      let one : sets ≡ x ∷ [] = e.1 ∙ ap (λ z. z ++ x ∷ []) none in
      let one_list : row_lists lists ≡ e.0 ∷ [] = e.2.lists ∙ ap (λ z. row_lists z ++ e.0 ∷ []) none_lists in (
        first_reached sets x one apart (start_set x follows),
        subst (λ z. AreListed net z lists) (sym one) (record {
          many = sym (many_rows lists) ∙ ap length one_list;
          listing = e.2.listing;
          exact = λ row s lt set. subst (λ z. ListsMatching (patterns_of net) s (get_or z row [])) (sym one_list) (only e.0 e.3 row s lt set);
        }),
        ap length one,
      ))
      takes
    where
      only : (numbers : List ℕ) → Lists net x numbers → (row : ℕ) (s : List ℕ) → row < length (x ∷ [])
          → IsSpotsOf (kept_of net) (get_or (x ∷ []) row []) s → ListsMatching (patterns_of net) s (get_or (numbers ∷ []) row [])
      only numbers listed zero s lt set = listed.lists s set
      only numbers listed (suc row) s lt set = absurd (omega arith)

  -- a text of a row's set, and one of the set that the byte leads to
  pub row_set : (old : List (List ℕ)) (row : ℕ) (was : List ℕ) → slice_get old row ≡ Some was → AreReached net old → (s : List ℕ) × IsText s × IsSpotsOf (kept_of net) was s
  row_set old row was at all =
      let g = got old row was [] at in
      let r = all.reached row g.0 in
      (r.0, r.1, subst (λ z. IsSpotsOf (kept_of net) z r.0) g.1 r.2)

  pub next_set : (old : List (List ℕ)) (row byte : ℕ) (was x : List ℕ) → slice_get old row ≡ Some was → AreReached net old → Follows net (Some byte) was x → (s : List ℕ) × IsSpotsOf (kept_of net) x s
  next_set old row byte was x at all follows =
      let r = row_set old row was at all in
      (r.0 ++ byte ∷ [], step_set was x byte r.0 follows r.2)

  module _ (old new : List (List ℕ)) (row byte : ℕ) (x was : List ℕ) (few : byte < 256) (at : slice_get old row ≡ Some was)
      (follows : Follows net (Some byte) was x) (grows : (new ≡ old) ⊎ (new ≡ old ++ x ∷ [])) where
    kept : (r : ℕ) → r < length old → get_or new r [] ≡ get_or old r []
    kept r lt = ⊎_elim (λ e. ap (λ z. get_or z r []) e) (λ e. ap (λ z. get_or z r []) e ∙ get_or_append_left old (x ∷ []) [] r lt) grows

    longer : length old ≤ length new
    longer = ⊎_elim (λ (e : new ≡ old). omega (arith, ap length e)) (λ (e : new ≡ old ++ x ∷ []). omega (arith, ap length e, length-append old (x ∷ []))) grows

    pub one_longer : length new ≤ length old + 1
    one_longer = ⊎_elim (λ (e : new ≡ old). omega (arith, ap length e)) (λ (e : new ≡ old ++ x ∷ []). omega (arith, ap length e, length-append old (x ∷ []))) grows

    pub still_reached : AreReached net old → IsApart new → AreReached net new
    still_reached all apart = record {
      some = omega (arith, all.some, longer);
      start = subst (λ z. IsSpotsOf (kept_of net) z []) (sym (kept 0 all.some)) all.start;
      reached = reached;
      apart = apart;
    }
      where
        of_row : IsText (all.reached row (got old row was [] at).0).0 × IsSpotsOf (kept_of net) was (all.reached row (got old row was [] at).0).0
        of_row =
            let r = all.reached row (got old row was [] at).0 in
            (r.1, subst (λ z. IsSpotsOf (kept_of net) z r.0) (got old row was [] at).1 r.2)

        reached : (r : ℕ) → r < length new → (s : List ℕ) × IsText s × IsSpotsOf (kept_of net) (get_or new r []) s
        reached r lt =
            ⊎_elim
            (λ (l : r < length old). let w = all.reached r l in (w.0, w.1, subst (λ z. IsSpotsOf (kept_of net) z w.0) (sym (kept r l)) w.2))
            (λ (g : length old ≤ r).
            ⊎_elim
            (λ (e : new ≡ old). absurd (omega (arith, ap length e)))
            (λ (e : new ≡ old ++ x ∷ []).
            let s = (all.reached row (got old row was [] at).0).0 in
            let last : length old ≡ r = omega (arith, ap length e, length-append old (x ∷ [])) in
            let here : get_or new r [] ≡ x = ap (λ z. get_or z r []) e ∙ get_or_push old x [] r last in
            (s ++ byte ∷ [], All-push (λ b. b < 256) s byte of_row.0 few, subst (λ z. IsSpotsOf (kept_of net) z (s ++ byte ∷ [])) (sym here) (step_set was x byte s follows of_row.1)))
            grows)
            (cases_lt r (length old))

    pub still_listed : (was_lists lists : Listing) → AreListed net old was_lists → TakesSet net x old new was_lists lists → AreListed net new lists
    still_listed was_lists lists listed either =
        ⊎_elim
        (λ (e : (new ≡ old) × (lists ≡ was_lists)). subst (λ z. AreListed net z lists) (sym e.0) (subst (λ z. AreListed net old z) (sym e.1) listed))
        (λ (e : (numbers : List ℕ) × (new ≡ old ++ x ∷ []) × AddsRow was_lists lists numbers × Lists net x numbers).
        subst (λ z. AreListed net z lists) (sym e.1) (record {
          many = sym (many_rows lists) ∙ ap length e.2.lists ∙ many e.0;
          listing = e.2.listing;
          exact = λ r s lt set. subst (λ z. ListsMatching (patterns_of net) s (get_or z r [])) (sym e.2.lists) (exact e.0 e.3 r s lt set);
        }))
        either
      where
        as_many : length (row_lists was_lists) ≡ length old
        as_many = many_rows was_lists ∙ listed.many

        many : (numbers : List ℕ) → length (row_lists was_lists ++ numbers ∷ []) ≡ length (old ++ x ∷ [])
        many numbers = omega (arith, as_many, length-append (row_lists was_lists) (numbers ∷ []), length-append old (x ∷ []))

        exact : (numbers : List ℕ) → Lists net x numbers → (r : ℕ) (s : List ℕ) → r < length (old ++ x ∷ [])
            → IsSpotsOf (kept_of net) (get_or (old ++ x ∷ []) r []) s
            → ListsMatching (patterns_of net) s (get_or (row_lists was_lists ++ numbers ∷ []) r [])
        exact numbers of_x r s lt set =
            ⊎_elim
            (λ (l : r < length old).
            subst (ListsMatching (patterns_of net) s) (sym (get_or_append_left (row_lists was_lists) (numbers ∷ []) [] r (omega (arith, as_many))))
            (listed.exact r s l (subst (λ z. IsSpotsOf (kept_of net) z s) (get_or_append_left old (x ∷ []) [] r l) set)))
            (λ (g : length old ≤ r).
            let last : length old ≡ r = omega (arith, length-append old (x ∷ [])) in
            subst (ListsMatching (patterns_of net) s) (sym (get_or_push (row_lists was_lists) numbers [] r (as_many ∙ last)))
            (of_x.lists s (subst (λ z. IsSpotsOf (kept_of net) z s) (get_or_push old x [] r last) set)))
            (cases_lt r (length old))

    pub goes_next : (next : ℕ) → slice_get new next ≡ Some x → Goes net new row byte next
    goes_next next found = record {
      within = (got new next x [] found).0;
      step = λ s set.
          subst (λ z. IsSpotsOf (kept_of net) z (s ++ byte ∷ [])) (sym (got new next x [] found).1)
          (step_set was x byte s follows (subst (λ z. IsSpotsOf (kept_of net) z s) (kept row (got old row was [] at).0 ∙ (got old row was [] at).1) set));
    }

  -- as many texts as there are sets
  pub many_places : IsNetOf net → (sets : List (List ℕ)) → AreReached net sets → HasPlaces (patterns_of net) (length sets)
  many_places is sets all = record {
    texts = listed text (length sets);
    many = length-listed text (length sets);
    bytes = bytes (length sets) (omega arith);
    apart = λ i j li lj same. all.apart i j li lj (same_sets is (get_or sets i []) (get_or sets j []) _ _ (is_set i li) (is_set j lj) same);
  }
    where
      pick : (k : ℕ) → (s : List ℕ) × (k < length sets → IsText s × IsSpotsOf (kept_of net) (get_or sets k []) s)
      pick k = ⊎_elim (λ lt. let r = all.reached k lt in (r.0, λ _. (r.1, r.2))) (λ ge. ([], λ (lt : k < length sets). absurd (omega arith))) (cases_lt k (length sets))

      text : ℕ → List ℕ
      text k = (pick k).0

      bytes : (n : ℕ) → n ≤ length sets → All IsText (listed text n)
      bytes zero le = All-nil IsText
      bytes (suc n) le = All-push IsText (listed text n) (text n) (bytes n (omega arith)) ((pick n).1 (omega arith)).0

      is_set : (i : ℕ) → i < length sets → IsSpotsOf (kept_of net) (get_or sets i []) (get_or (listed text (length sets)) i [])
      is_set i lt = subst (IsSpotsOf (kept_of net) (get_or sets i [])) (sym (get_or-listed text (length sets) i lt)) ((pick i).1 lt).1

pub grown_sets : (net : Net) (x : List ℕ) (old new : List (List ℕ)) (was_lists lists : Listing) → TakesSet net x old new was_lists lists → (new ≡ old) ⊎ (new ≡ old ++ x ∷ [])
grown_sets net x old new was_lists lists s =
    ⊎_elim (λ (p : (new ≡ old) × (lists ≡ was_lists)). inl p.0)
    (λ (p : (numbers : List ℕ) × (new ≡ old ++ x ∷ []) × AddsRow was_lists lists numbers × Lists net x numbers). inr p.1) s
