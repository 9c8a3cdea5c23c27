-- Lists as sets, in their order, are one exactly where they have the same elements.
use Rattle.std.proofs.Common.{◌≡◌, ℕ, List, [], ◌∷◌, Bool, true, false, refl, sym, ap, ◌∙◌, subst, true≢false}
use Rattle.std.specs.Prelude.{◌||◌}
use Rattle.std.specs.List.{list_any}
use Rattle.std.specs.Str.{bytes_eq}
use Rattle.std.specs.BTreeSet.{insert_key}
use Rattle.std.specs.declared.cmp.Ordering.{Ordering}
use Rattle.std.specs.declared.cmp.Ordering.TheVariants.{Less, Equal, Greater}
use Rattle.std.specs.Ordering.{match_ordering, is_eq, nat_cmp, ordering_reverse}
use Rattle.std.specs.Cmp.Lexicographic.{slice_cmp, texts_ties}
use Rattle.std.proofs.lemmas.Cmp.{nat_list_cmp_total}
use Rattle.std.proofs.lemmas.Map.Lookups.{exact_bytes}
use Rattle.std.proofs.lemmas.Slice.Eq.{bytes_eq-Decides}
use Rattle.aa_changed_rules.specs.Forms.{ascending, ascending_behind}

abbrev compares : List ℕ → List ℕ → Ordering
compares x y = slice_cmp nat_cmp x y

-- it comes before each
abbrev IsBelow : List ℕ → List (List ℕ) → Type 0
IsBelow x [] = Unit {0}
IsBelow x (y ∷ ys) = (compares x y ≡ Less) × IsBelow x ys

-- each comes before the later ones
abbrev Ascend : List (List ℕ) → Type 0
Ascend [] = Unit {0}
Ascend (x ∷ xs) = IsBelow x xs × Ascend xs

below_all : (x y : List ℕ) (ys : List (List ℕ)) → compares x y ≡ Less → IsBelow y ys → IsBelow x ys
below_all x y [] h b = tt
below_all x y (z ∷ zs) h b = (nat_list_cmp_total.trans x y z h b.0, below_all x y zs h b.1)

below_insert : (x k : List ℕ) (ys : List (List ℕ)) → IsBelow x ys → compares x k ≡ Less → IsBelow x (insert_key (slice_cmp nat_cmp) ys k)
below_insert x k [] b h = (h, tt)
below_insert x k (y ∷ ys) b h = by (compares k y) (below_insert x k ys b.1 h)
  where
    by : (o : Ordering) → IsBelow x (insert_key (slice_cmp nat_cmp) ys k)
        → IsBelow x (match_ordering o (k ∷ y ∷ ys) (y ∷ ys) (y ∷ insert_key (slice_cmp nat_cmp) ys k))
    by Less r = (h, b)
    by Equal r = b
    by Greater r = (b.0, r)

ascend_insert : (k : List ℕ) (xs : List (List ℕ)) → Ascend xs → Ascend (insert_key (slice_cmp nat_cmp) xs k)
ascend_insert k [] a = (tt, tt)
ascend_insert k (x ∷ xs) a = by (compares k x) refl (ascend_insert k xs a.1)
  where
    by : (o : Ordering) → compares k x ≡ o → Ascend (insert_key (slice_cmp nat_cmp) xs k)
        → Ascend (match_ordering o (k ∷ x ∷ xs) (x ∷ xs) (x ∷ insert_key (slice_cmp nat_cmp) xs k))
    by Less e r = ((e, below_all k x xs e a.0), a)
    by Equal e r = a
    by Greater e r = (below_insert x k xs a.0 (nat_list_cmp_total.antisymm x k ∙ ap ordering_reverse e), r)

ascend_behind : (done cs : List (List ℕ)) → Ascend done → Ascend (ascending_behind done cs)
ascend_behind done [] a = a
ascend_behind done (c ∷ cs) a = ascend_behind (insert_key (slice_cmp nat_cmp) done c) cs (ascend_insert c done a)

-- ---- elements

abbrev has : List ℕ → List (List ℕ) → Bool
has q xs = list_any (bytes_eq q) xs

or_none : (a : Bool) → (a || false) ≡ a
or_none true = refl
or_none false = refl

or_twice : (a b : Bool) → (a || b) ≡ (a || (a || b))
or_twice true b = refl
or_twice false b = refl

or_turned : (a b c : Bool) → (a || (b || c)) ≡ (b || (a || c))
or_turned true true c = refl
or_turned true false c = refl
or_turned false b c = refl

or_joined : (a b c : Bool) → ((a || b) || c) ≡ (b || (a || c))
or_joined true true c = refl
or_joined true false c = refl
or_joined false b c = refl

has_insert : (q k : List ℕ) (xs : List (List ℕ)) → has q (insert_key (slice_cmp nat_cmp) xs k) ≡ (bytes_eq q k || has q xs)
has_insert q k [] = refl
has_insert q k (x ∷ xs) = by (compares k x) refl (has_insert q k xs)
  where
    by : (o : Ordering) → compares k x ≡ o → has q (insert_key (slice_cmp nat_cmp) xs k) ≡ (bytes_eq q k || has q xs)
        → has q (match_ordering o (k ∷ x ∷ xs) (x ∷ xs) (x ∷ insert_key (slice_cmp nat_cmp) xs k)) ≡ (bytes_eq q k || has q (x ∷ xs))
    by Less e r = refl
    by Equal e r =
        or_twice (bytes_eq q x) (has q xs) ∙ ap (λ (z : List ℕ). bytes_eq q z || (bytes_eq q x || has q xs)) (sym (exact_bytes k x e))
    by Greater e r = ap (λ (b : Bool). bytes_eq q x || b) r ∙ or_turned (bytes_eq q x) (bytes_eq q k) (has q xs)

has_behind : (q : List ℕ) (done cs : List (List ℕ)) → has q (ascending_behind done cs) ≡ (has q done || has q cs)
has_behind q done [] = sym (or_none (has q done))
has_behind q done (c ∷ cs) =
    has_behind q (insert_key (slice_cmp nat_cmp) done c) cs ∙ ap (λ (b : Bool). b || has q cs) (has_insert q c done)
    ∙ or_joined (bytes_eq q c) (has q done) (has q cs)

pub has_ascending : (q : List ℕ) (cs : List (List ℕ)) → has q (ascending cs) ≡ has q cs
has_ascending q cs = has_behind q [] cs

-- ---- in order the elements tell the list

below_differs : (x y : List ℕ) → compares x y ≡ Less → bytes_eq x y ≡ false
below_differs x y e = texts_ties x y ∙ ap is_eq e

below_lacks : (x : List ℕ) (ys : List (List ℕ)) → IsBelow x ys → has x ys ≡ false
below_lacks x [] b = refl
below_lacks x (y ∷ ys) b = ap (λ (c : Bool). c || has x ys) (below_differs x y b.0) ∙ below_lacks x ys b.1

has_itself : (x : List ℕ) (xs : List (List ℕ)) → has x (x ∷ xs) ≡ true
has_itself x xs = ap (λ (b : Bool). b || has x xs) ((bytes_eq-Decides x x).1 refl)

-- one comes before the head of the other list
no_head : (x y : List ℕ) (xs ys : List (List ℕ)) → Ascend (y ∷ ys) → has x (x ∷ xs) ≡ has x (y ∷ ys) → compares x y ≡ Less → ⊥
no_head x y xs ys a h e = true≢false (sym (has_itself x xs) ∙ h ∙ below_lacks x (y ∷ ys) (e, below_all x y ys e a.0))

same_rest : (q x : List ℕ) (xs ys : List (List ℕ)) → IsBelow x xs → IsBelow x ys → has q (x ∷ xs) ≡ has q (x ∷ ys) → has q xs ≡ has q ys
same_rest q x xs ys a b h = at (bytes_eq q x) refl h
  where
    at : (c : Bool) → bytes_eq q x ≡ c → (c || has q xs) ≡ (c || has q ys) → has q xs ≡ has q ys
    at true e k =
        let is : q ≡ x = (bytes_eq-Decides q x).0 e in
        ap (λ (z : List ℕ). has z xs) is ∙ below_lacks x xs a ∙ sym (below_lacks x ys b) ∙ ap (λ (z : List ℕ). has z ys) (sym is)
    at false e k = k

same_elements : (xs ys : List (List ℕ)) → Ascend xs → Ascend ys → ((q : List ℕ) → has q xs ≡ has q ys) → xs ≡ ys
same_elements [] [] a b h = refl
same_elements [] (y ∷ ys) a b h = absurd (true≢false (sym (has_itself y ys) ∙ sym (h y)))
same_elements (x ∷ xs) [] a b h = absurd (true≢false (sym (has_itself x xs) ∙ h x))
same_elements (x ∷ xs) (y ∷ ys) a b h = at (same_elements xs ys a.1 b.1) (compares x y) refl
  where
    at : (((q : List ℕ) → has q xs ≡ has q ys) → xs ≡ ys) → (o : Ordering) → compares x y ≡ o → x ∷ xs ≡ y ∷ ys
    at later Less e = absurd (no_head x y xs ys b (h x) e)
    at later Equal e =
        let is : x ≡ y = exact_bytes x y e in
        let below = subst (λ (z : List ℕ). IsBelow z ys) (sym is) b.0 in
        let rest = later
        (λ q. same_rest q x xs ys a.0 below (h q ∙ ap (λ (z : List ℕ). bytes_eq q z || has q ys) (sym is))) in
        ap (λ (z : List ℕ). z ∷ xs) is ∙ ap (λ (zs : List (List ℕ)). y ∷ zs) rest
    at later Greater e = absurd (no_head y x ys xs a (sym (h y)) (nat_list_cmp_total.antisymm y x ∙ ap ordering_reverse e))

pub ascending_same : (cs ds : List (List ℕ)) → ((q : List ℕ) → has q cs ≡ has q ds) → ascending cs ≡ ascending ds
ascending_same cs ds h =
    same_elements (ascending cs) (ascending ds) (ascend_behind [] cs tt) (ascend_behind [] ds tt)
    (λ q. has_ascending q cs ∙ h q ∙ sym (has_ascending q ds))

pub ascending_told : (cs ds : List (List ℕ)) → ascending cs ≡ ascending ds → (q : List ℕ) → has q cs ≡ has q ds
ascending_told cs ds e q = sym (has_ascending q cs) ∙ ap (λ (xs : List (List ℕ)). has q xs) e ∙ has_ascending q ds
