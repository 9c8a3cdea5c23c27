-- What is known of a name, once another is entered.
use Rattle.std.proofs.Common.{◌≡◌, ◌⊎◌, inl, inr, ℕ, Bool, true, false, cond, List, [], ◌∷◌, Option, Some, None, refl, sym, ap, ◌∙◌}
use Rattle.std.specs.declared.cmp.Ordering.{Ordering}
use Rattle.std.specs.declared.cmp.Ordering.TheVariants.{Less, Equal, Greater}
use Rattle.std.specs.Ordering.{nat_cmp, is_eq, match_ordering}
use Rattle.std.specs.Cmp.Lexicographic.{slice_cmp}
use Rattle.std.specs.BTreeMap.{insert_entry}
use Rattle.std.proofs.lemmas.Cmp.{nat_list_cmp_total, tied_itself}
use Rattle.std.proofs.lemmas.Map.Lookups.{exact_bytes}
use Rattle.aa_files.specs.Walks.{Name, Entry, by_bytes, known_of}

same : List ℕ → List ℕ → Bool
same a b = is_eq (slice_cmp nat_cmp a b)

pub tied : (r : Ordering) → is_eq r ≡ true → r ≡ Equal
tied Less e = cc
tied Equal e = refl
tied Greater e = cc

-- two tests that don't both hold may change places
swapped : (a b : Bool) (x y : Option (Option ℕ)) (z : Option (Option ℕ)) → (a ≡ true → b ≡ true → x ≡ y) → cond a x (cond b y z) ≡ cond b y (cond a x z)
swapped true true x y z h = h refl refl
swapped true false x y z h = refl
swapped false true x y z h = refl
swapped false false x y z h = refl

pub known_insert : (es : List Entry) (k : Name) (v : Option ℕ) (q : List ℕ) → known_of es k.items ≡ None → known_of (insert_entry by_bytes es k v) q ≡ cond (is_eq (slice_cmp nat_cmp q k.items)) (Some v) (known_of es q)
known_insert [] k v q h = refl
known_insert (e ∷ es) k v q h = by (slice_cmp nat_cmp k.items e.0.items) refl h (λ g. known_insert es k v q g)
  where
    by : (r : Ordering) → slice_cmp nat_cmp k.items e.0.items ≡ r → cond (is_eq r) (Some e.1) (known_of es k.items) ≡ None
        → (known_of es k.items ≡ None → known_of (insert_entry by_bytes es k v) q ≡ cond (is_eq (slice_cmp nat_cmp q k.items)) (Some v) (known_of es q))
        → known_of (match_ordering r ((k, v) ∷ e ∷ es) ((e.0, v) ∷ es) (e ∷ insert_entry by_bytes es k v)) q ≡ cond (is_eq (slice_cmp nat_cmp q k.items)) (Some v) (known_of (e ∷ es) q)
    by Less r h later = refl
    by Equal r h later = cc
    by Greater r h later =
        let apart : is_eq (slice_cmp nat_cmp q e.0.items) ≡ true → is_eq (slice_cmp nat_cmp q k.items) ≡ true
        → Some e.1 ≡ Some v = λ a b. absurd
        (differ r (exact_bytes q e.0.items (tied (slice_cmp nat_cmp q e.0.items) a)) (exact_bytes q k.items (tied (slice_cmp nat_cmp q k.items) b))) in
        ap (λ (w : Option (Option ℕ)). cond (is_eq (slice_cmp nat_cmp q e.0.items)) (Some e.1) w) (later h)
        ∙ swapped (is_eq (slice_cmp nat_cmp q e.0.items)) (is_eq (slice_cmp nat_cmp q k.items)) (Some e.1) (Some v) (known_of es q) apart
      where
        differ : slice_cmp nat_cmp k.items e.0.items ≡ Greater → q ≡ e.0.items → q ≡ k.items → ⊥
        differ g a b = let t : slice_cmp nat_cmp q q ≡ Equal = tied_itself nat_list_cmp_total q in
            let u : slice_cmp nat_cmp k.items e.0.items ≡ slice_cmp nat_cmp q q = cc in cc

-- the name that is entered has its value
pub known_here : (es : List Entry) (k : Name) (v : Option ℕ) → known_of es k.items ≡ None → known_of (insert_entry by_bytes es k v) k.items ≡ Some v
known_here es k v h =
    known_insert es k v k.items h ∙ ap (λ (r : Ordering). cond (is_eq r) (Some v) (known_of es k.items)) (tied_itself nat_list_cmp_total k.items)

pub known_cases : (es : List Entry) (k : Name) (v : Option ℕ) (q : List ℕ) (w : Option ℕ) → known_of es k.items ≡ None
    → known_of (insert_entry by_bytes es k v) q ≡ Some w → (known_of es q ≡ Some w) ⊎ ((q ≡ k.items) × (v ≡ w))
known_cases es k v q w h e = by (slice_cmp nat_cmp q k.items) refl (sym (known_insert es k v q h) ∙ e)
  where
    by : (r : Ordering) → slice_cmp nat_cmp q k.items ≡ r → cond (is_eq r) (Some v) (known_of es q) ≡ Some w → (known_of es q ≡ Some w) ⊎ ((q ≡ k.items) × (v ≡ w))
    by Less r e = inl e
    by Equal r e = let f : v ≡ w = cc in inr (exact_bytes q k.items r, f)
    by Greater r e = inl e

-- and each other keeps its own
pub known_kept : (es : List Entry) (k : Name) (v : Option ℕ) (q : List ℕ) (w : Option ℕ) → known_of es k.items ≡ None → known_of es q ≡ Some w → known_of (insert_entry by_bytes es k v) q ≡ Some w
known_kept es k v q w h e = known_insert es k v q h ∙ by (slice_cmp nat_cmp q k.items) refl
  where
    by : (r : Ordering) → slice_cmp nat_cmp q k.items ≡ r → cond (is_eq r) (Some v) (known_of es q) ≡ Some w
    by Less r = e
    by Equal r = let f : q ≡ k.items = exact_bytes q k.items r in let g : known_of es q ≡ None = ap (λ (t : List ℕ). known_of es t) f ∙ h in cc
    by Greater r = e
