-- Rows of positions that are filled one position after the other.
use Rattle.std.proofs.Common.{Contains, map, ◌≡◌, ◌≢◌, ℕ, ◌+◌, ◌≤◌, ◌<◌, ◌↔◌, ◌⊎◌, List, [], ◌∷◌, ◌++◌}
use Rattle.std.proofs.Common.{length, get_or, take, suc, zero, Vec, Global, refl, sym, ap, ◌∙◌, subst, inl, inr, ⊎_elim, arith}
use Rattle.std.proofs.Math.ListN.{set}
use Rattle.std.proofs.lemmas.List.{take_more, length-map, get_or_append_left, length_push}
use Rattle.std.proofs.lemmas.List.Elements.{Contains-push, Contains-push_cases, Contains-append_left}
use Rattle.std.proofs.lemmas.Bool.{cases_lt}
use Rattle.aa_pattern.specs.declared.item.Item.{Item}
use Rattle.aa_auto.specs.declared.nodes.Node.{Node}
use Rattle.aa_auto.specs.declared.nodes.Node.TheVariants.{Start, After, Same, Join}
use Rattle.aa_pattern.specs.Steps.{IsSkippable}
use Rattle.aa_auto.specs.Nodes.{HasSources, HaveSources}
use Rattle.aa_auto.specs.Merged.{Tells}
use Rattle.aa_auto.specs.Closed.{IsUpward}
use Rattle.aa_auto.specs.Spots.{Jumps, AreJumps, AreJumpsSoFar, AddsToRows, AddsJumps, AreEmpty}
use Rattle.aa_auto.proofs.SortedLemmas.{contains_at, at_of}

abbrev pub lists : List (Vec ℕ Global) → List (List ℕ)
lists vs = map (λ (v : Vec ℕ Global). v.items) vs

pub length_lists : (vs : List (Vec ℕ Global)) → length (lists vs) ≡ length vs
length_lists vs = length-map vs (λ (v : Vec ℕ Global). v.items)

row_set_here : (vs : List (Vec ℕ Global)) (at : ℕ) (v : Vec ℕ Global) → at < length vs → get_or (lists (set vs at v)) at [] ≡ v.items
row_set_here [] at v lt = absurd (omega arith)
row_set_here (x ∷ vs) zero v lt = refl
row_set_here (x ∷ vs) (suc at) v lt = row_set_here vs at v (omega arith)

row_set_other : (vs : List (Vec ℕ Global)) (at p : ℕ) (v : Vec ℕ Global) → p ≢ at → get_or (lists (set vs at v)) p [] ≡ get_or (lists vs) p []
row_set_other [] at p v ne = refl
row_set_other (x ∷ vs) zero zero v ne = absurd (ne refl)
row_set_other (x ∷ vs) zero (suc p) v ne = refl
row_set_other (x ∷ vs) (suc at) zero v ne = refl
row_set_other (x ∷ vs) (suc at) (suc p) v ne = row_set_other vs at p v (λ e. ne (ap suc e))

length_set : (vs : List (Vec ℕ Global)) (at : ℕ) (v : Vec ℕ Global) → length (lists (set vs at v)) ≡ length (lists vs)
length_set [] at v = refl
length_set (x ∷ vs) zero v = refl
length_set (x ∷ vs) (suc at) v = ap suc (length_set vs at v)

row_is : (vs : List (Vec ℕ Global)) (at : ℕ) (o : Vec ℕ Global) → at < length vs → o ≡ get_or vs at o → get_or (lists vs) at [] ≡ o.items
row_is [] at o lt e = absurd (omega arith)
row_is (x ∷ vs) zero o lt e = ap (λ (z : Vec ℕ Global). z.items) (sym e)
row_is (x ∷ vs) (suc at) o lt e = row_is vs at o (omega arith) e

alone : (at p : ℕ) → Contains (at ∷ []) p → p ≡ at
alone at p c = one (at_of (at ∷ []) p c).0 (at_of (at ∷ []) p c).1 (at_of (at ∷ []) p c).2
  where
    one : (k : ℕ) → k < length (at ∷ []) → get_or (at ∷ []) k 0 ≡ p → p ≡ at
    one zero lt e = sym e
    one (suc k) lt e = absurd (omega arith)

pub row_pushed : (vs : List (Vec ℕ Global)) (at n : ℕ) (o v : Vec ℕ Global) → at < length vs → o ≡ get_or vs at o → v.items ≡ o.items ++ n ∷ [] →
    AddsToRows (lists vs) (lists (set vs at v)) (at ∷ []) n
row_pushed vs at n o v lt is pushed = record { many = length_set vs at v; exact = λ p m. ⊎_elim (λ e. same p m e) (λ ne. other p m ne) (either p) }
  where
    either : (p : ℕ) → (p ≡ at) ⊎ (p ≢ at)
    either p = ⊎_elim (λ (l : p < at). inr (λ e. omega (arith, e, l))) (λ (g : at ≤ p). ⊎_elim (λ (l : at < p). inr (λ e. omega (arith, e, l))) (λ (h : p ≤ at). inl (omega arith)) (cases_lt at p)) (cases_lt p at)

    now : get_or (lists (set vs at v)) at [] ≡ get_or (lists vs) at [] ++ n ∷ []
    now = row_set_here vs at v lt ∙ pushed ∙ ap (λ z. z ++ n ∷ []) (sym (row_is vs at o lt is))

    here : (m : ℕ) → Contains (get_or (lists (set vs at v)) at []) m ↔ (Contains (get_or (lists vs) at []) m ⊎ ((m ≡ n) × Contains (at ∷ []) at))
    here m = (
      λ c. ⊎_elim (λ o. inl o) (λ (e : n ≡ m). inr (sym e, contains_at (at ∷ []) 0 at (omega arith) refl)) (Contains-push_cases (get_or (lists vs) at []) n m (subst (λ z. Contains z m) now c)),
      λ s. subst (λ z. Contains z m) (sym now) (⊎_elim
          (λ o. Contains-append_left (get_or (lists vs) at []) (n ∷ []) m o)
          (λ (e : (m ≡ n) × Contains (at ∷ []) at). subst (λ z. Contains (get_or (lists vs) at [] ++ n ∷ []) z) (sym e.0) (Contains-push (get_or (lists vs) at []) n))
          s),
    )

    same : (p m : ℕ) → p ≡ at → Contains (get_or (lists (set vs at v)) p []) m ↔ (Contains (get_or (lists vs) p []) m ⊎ ((m ≡ n) × Contains (at ∷ []) p))
    same p m e = subst (λ q. Contains (get_or (lists (set vs at v)) q []) m ↔ (Contains (get_or (lists vs) q []) m ⊎ ((m ≡ n) × Contains (at ∷ []) q))) (sym e) (here m)

    other : (p m : ℕ) → p ≢ at → Contains (get_or (lists (set vs at v)) p []) m ↔ (Contains (get_or (lists vs) p []) m ⊎ ((m ≡ n) × Contains (at ∷ []) p))
    other p m ne = (
      λ c. inl (subst (λ z. Contains z m) (row_set_other vs at p v ne) c),
      λ s. ⊎_elim
          (λ o. subst (λ z. Contains z m) (sym (row_set_other vs at p v ne)) o)
          (λ (e : (m ≡ n) × Contains (at ∷ []) p). absurd (ne (alone at p e.1)))
          s,
    )

pub rows_more : (old mid new : List (List ℕ)) (xs : List ℕ) (n k v : ℕ) → k < length xs → v ≡ get_or xs k 0 → AddsToRows old mid (take k xs) n → AddsToRows mid new (v ∷ []) n →
    AddsToRows old new (take (k + 1) xs) n
rows_more old mid new xs n k v lt is front one =
    subst (λ z. AddsToRows old new z n) (sym (take_more xs k 0 lt ∙ ap (λ z. take k xs ++ z ∷ []) (sym is))) (record {
      many = one.many ∙ front.many;
      exact = λ p m. (
        λ c. ⊎_elim
            (λ d. ⊎_elim (λ o. inl o) (λ (e : (m ≡ n) × Contains (take k xs) p). inr (e.0, Contains-append_left (take k xs) (v ∷ []) p e.1)) ((front.exact p m).0 d))
            (λ (e : (m ≡ n) × Contains (v ∷ []) p). inr (e.0, subst (λ z. Contains (take k xs ++ v ∷ []) z) (sym (alone v p e.1)) (Contains-push (take k xs) v)))
            ((one.exact p m).0 c),
        λ s. ⊎_elim
            (λ o. (one.exact p m).1 (inl ((front.exact p m).1 (inl o))))
            (λ (e : (m ≡ n) × Contains (take k xs ++ v ∷ []) p). ⊎_elim
            (λ c. (one.exact p m).1 (inl ((front.exact p m).1 (inr (e.0, c)))))
            (λ (q : v ≡ p). (one.exact p m).1 (inr (e.0, contains_at (v ∷ []) 0 p (omega arith) q)))
            (Contains-push_cases (take k xs) v p e.1))
            s,
      );
    })

-- the jumps to one position
pub jumps_same : (old new : List (List ℕ)) (node : Node) (from n : ℕ) → node ≡ Same from → AddsToRows old new (from ∷ []) n → AddsJumps old new node n
jumps_same old new node from n is adds = subst (λ z. AddsJumps old new z n) (sym is) (record {
  many = adds.many;
  exact = λ p m. (
    λ c. ⊎_elim (λ o. inl o) (λ (e : (m ≡ n) × Contains (from ∷ []) p). inr (e.0, alone from p e.1)) ((adds.exact p m).0 c),
    λ s. (adds.exact p m).1 (⊎_elim (λ o. inl o) (λ (e : (m ≡ n) × (p ≡ from)). inr (e.0, contains_at (from ∷ []) 0 p (omega arith) (sym e.1))) s),
  );
})

pub jumps_join : (old new : List (List ℕ)) (node : Node) (ends : Vec ℕ Global) (n : ℕ) → node ≡ Join ends → AddsToRows old new ends.items n → AddsJumps old new node n
jumps_join old new node ends n is adds = subst (λ z. AddsJumps old new z n) (sym is) (record { many = adds.many; exact = adds.exact })

pub jumps_skip : (old new : List (List ℕ)) (node : Node) (i : _) (n from : ℕ) → node ≡ After i → IsSkippable i.now → n ≡ from + 1 → AddsToRows old new (from ∷ []) n → AddsJumps old new node n
jumps_skip old new node i n from is skip next adds = subst (λ z. AddsJumps old new z n) (sym is) (record {
  many = adds.many;
  exact = λ p m. (
    λ c. ⊎_elim (λ o. inl o) (λ (e : (m ≡ n) × Contains (from ∷ []) p). inr (e.0, (skip, omega (arith, next, alone from p e.1)))) ((adds.exact p m).0 c),
    λ s. (adds.exact p m).1 (⊎_elim (λ o. inl o) (λ (e : (m ≡ n) × (IsSkippable i.now × (n ≡ p + 1))). inr (e.0, contains_at (from ∷ []) 0 p (omega arith) (omega (arith, e.1.1, next)))) s),
  );
})

pub empty_none : (rows : List (List ℕ)) → rows ≡ [] → AreEmpty rows 0
empty_none rows e = subst (λ z. AreEmpty z 0) (sym e) (record { count = refl; empty = λ p n (c : Contains [] n). absurd (omega (arith, c.1)) })

pub lists_push : (vs : List (Vec ℕ Global)) (v : Vec ℕ Global) → lists (vs ++ v ∷ []) ≡ lists vs ++ v.items ∷ []
lists_push [] v = refl
lists_push (x ∷ vs) v = ap (λ z. x.items ∷ z) (lists_push vs v)

pub empty_more : (rows : List (List ℕ)) (x : List ℕ) (k : ℕ) → x ≡ [] → AreEmpty rows k → AreEmpty (rows ++ x ∷ []) (k + 1)
empty_more rows x k e all = record {
  count = omega (arith, all.count, length_push rows x);
  empty = λ p n c. ⊎_elim
      (λ (l : p < length rows). all.empty p n (subst (λ z. Contains z n) (get_or_append_left rows (x ∷ []) [] p l) c))
      (λ (g : length rows ≤ p). nothing n (subst (λ z. Contains z n) (past rows p g) c))
      (cases_lt p (length rows));
}
  where
    nothing : (n : ℕ) → Contains [] n → ⊥
    nothing n c = absurd (omega (arith, c.1))

    past : (xs : List (List ℕ)) (p : ℕ) → length xs ≤ p → get_or (xs ++ x ∷ []) p [] ≡ []
    past [] zero g = e
    past [] (suc p) g = refl
    past (y ∷ xs) zero g = absurd (omega arith)
    past (y ∷ xs) (suc p) g = past xs p (omega arith)

pub jumps_start : (nodes : List Node) (rows : List (List ℕ)) → AreEmpty rows (length nodes) → AreJumpsSoFar nodes 0 rows
jumps_start nodes rows none = record { many = none.count; exact = λ p n. (λ c. absurd (none.empty p n c), λ q. absurd (omega (arith, q.0))) }

pub jumps_more : (nodes : List Node) (k : ℕ) (rows new : List (List ℕ)) (node : Node) → node ≡ get_or nodes k Start → AreJumpsSoFar nodes k rows → AddsJumps rows new node k → AreJumpsSoFar nodes (k + 1) new
jumps_more nodes k rows new node is front one = record {
  many = one.many ∙ front.many;
  exact = λ p n. (
    λ c. ⊎_elim
        (λ o. let q = (front.exact p n).0 o in (omega (arith, q.0), q.1))
        (λ (e : (n ≡ k) × Jumps node k p). (omega (arith, e.0), subst (λ z. Jumps (get_or nodes z Start) z p) (sym e.0) (subst (λ z. Jumps z k p) is e.1)))
        ((one.exact p n).0 c),
    λ q. (one.exact p n).1 (⊎_elim
        (λ (l : n < k). inl ((front.exact p n).1 (l, q.1)))
        (λ (g : k ≤ n). let e : n ≡ k = omega (arith, q.0) in inr (e, subst (λ z. Jumps z k p) (sym is) (subst (λ z. Jumps (get_or nodes z Start) z p) e q.1)))
        (cases_lt n k)),
  );
}

pub jumps_all : (nodes : List Node) (k : ℕ) (rows : List (List ℕ)) → k ≡ length nodes → AreJumpsSoFar nodes k rows → AreJumps nodes rows
jumps_all nodes k rows e all = record {
  many = all.many;
  exact = λ p n. (λ c. let q = (all.exact p n).0 c in (omega (arith, q.0, e), q.1), λ q. (all.exact p n).1 (omega (arith, q.0, e), q.1));
}

-- nodes that tell texts name positions before their own
pub tells_sources : (hs : List (List Item)) (nodes : List Node) → ((n : ℕ) → n < length nodes → Tells hs n (get_or nodes n Start)) → HaveSources nodes
tells_sources hs nodes tells n lt = at (get_or nodes n Start) (tells n lt)
  where
    at : (node : Node) → Tells hs n node → HasSources node n
    at Start r = tt
    at (After i) r = r.1
    at (Same p) r = r.0
    at (Join es) r = r.0

pub upward : (nodes : List Node) (rows : List (List ℕ)) → HaveSources nodes → AreJumps nodes rows → IsUpward rows
upward nodes rows sources jumps p n c =
    let q = (jumps.exact p n).0 c in
    (before (get_or nodes n Start) (sources n q.0) q.1, omega (arith, jumps.many, q.0))
  where
    before : (node : Node) → HasSources node n → Jumps node n p → p < n
    before Start s j = absurd j
    before (After i) s j = omega (arith, j.1)
    before (Same q) s j = omega (arith, j, s)
    before (Join es) s j = subst (λ z. z < n) j.2 (s j.0 p j.1)
