-- The closed set of the positions that a byte leads to is that of the longer text.
use Rattle.std.proofs.Common.{Contains, ◌≡◌, ℕ, ◌+◌, ◌-◌, ◌<◌, ◌↔◌, ◌⊎◌, Option, Some, None, List, [], ◌∷◌, ◌++◌}
use Rattle.std.proofs.Common.{length, get_or, suc, zero, refl, sym, ap, ◌∙◌, subst, inl, inr, ⊎_elim, arith}
use Rattle.aa_pattern.specs.declared.item.Item.{Item}
use Rattle.aa_pattern.specs.Globs.{Matches}
use Rattle.aa_auto.specs.declared.nodes.Node.{Node}
use Rattle.aa_auto.specs.declared.nodes.Node.TheVariants.{Start, After, Same, Join}
use Rattle.aa_pattern.specs.Steps.{Begins, Continues, IsSkippable}
use Rattle.aa_auto.specs.Merged.{Tells}
use Rattle.aa_auto.specs.Closed.{IsClosure}
use Rattle.aa_auto.specs.Spots.{Stands, IsSpotsOf, Jumps, AreJumps, Seeds, AreSeeds, Leads, Stood, BeginsNode, ContinuesNode, LeadAlike}
use Rattle.aa_pattern.proofs.Texts.{Matches-skip, Matches-grow}

module _ (hs : List (List Item)) where
  -- a position before n leads there without a byte
  abbrev Jumped : Node → ℕ → List ℕ → Type 0
  Jumped node n t = (p : ℕ) × (p < n) × Jumps node n p × Matches (get_or hs p []) t

  same_to : (q n : ℕ) (t : List ℕ) → Tells hs n (Same q) → Matches (get_or hs n []) t ↔ Jumped (Same q) n t
  same_to q n t r = (
    λ m. (q, r.0, refl, (r.1 t).0 m),
    λ j. (r.1 t).1 (subst (λ p. Matches (get_or hs p []) t) j.2 j.3),
  )

  join_to : (ends : _) (n : ℕ) (t : List ℕ) → Tells hs n (Join ends) → Matches (get_or hs n []) t ↔ Jumped (Join ends) n t
  join_to ends n t r = (
    λ m. let x = (r.1 t).0 m in (x.0, subst (λ z. z < n) x.1.2 (r.0 x.1.0 x.0 x.1.1), x.1, x.2),
    λ j. (r.1 t).1 (j.0, j.2, j.3),
  )

  back : (p n : ℕ) (t : List ℕ) → n ≡ p + 1 → Matches (get_or hs p []) t → Matches (get_or hs (n - 1) []) t
  back p n t e m = let e' : p ≡ n - 1 = omega (arith, e) in subst (λ k. Matches (get_or hs k []) t) e' m

  meaning_none : (old : List ℕ) (n : ℕ) (node : Node) → Tells hs n node → Matches (get_or hs n []) [] ↔ (Seeds None old node n ⊎ Jumped node n [])
  meaning_none old n Start r = (λ m. inl tt, λ x. (r []).1 refl)
  meaning_none old n (After i) r = (
    λ m. let q = (Matches-skip (get_or hs (n - 1) []) i.now r.0).0 ((r.2 []).0 m) in
        inr (n - 1, omega (arith, r.1), (q.0, omega (arith, r.1)), q.1),
    λ x. ⊎_elim (λ z. absurd z)
        (λ (j : Jumped (After i) n []). (r.2 []).1 ((Matches-skip (get_or hs (n - 1) []) i.now r.0).1 (j.2.0, back j.0 n [] j.2.1 j.3))) x,
  )
  meaning_none old n (Same q) r = (λ m. inr ((same_to q n [] r).0 m), λ x. ⊎_elim (λ z. absurd z) (λ (j : Jumped (Same q) n []). (same_to q n [] r).1 j) x)
  meaning_none old n (Join ends) r = (λ m. inr ((join_to ends n [] r).0 m), λ x. ⊎_elim (λ z. absurd z) (λ (j : Jumped (Join ends) n []). (join_to ends n [] r).1 j) x)

  meaning_some : (b : ℕ) (old : List ℕ) (s : List ℕ) → Stands hs old s → (n : ℕ) (node : Node) → n < length hs → Tells hs n node →
      Matches (get_or hs n []) (s ++ b ∷ []) ↔ (Seeds (Some b) old node n ⊎ Jumped node n (s ++ b ∷ []))
  meaning_some b old s was n Start lt r = (
    λ m. absurd (nothing s ((r (s ++ b ∷ [])).0 m)),
    λ x. ⊎_elim (λ z. absurd z) (λ (j : Jumped Start n (s ++ b ∷ [])). absurd j.2) x,
  )
    where
      nothing : (c : List ℕ) → c ++ b ∷ [] ≡ [] → ⊥
      nothing [] e = cc e
      nothing (y ∷ c) e = cc e
  meaning_some b old s was n (After i) lt r = (to, from)
    where
      h : List Item
      h = get_or hs (n - 1) []

      to : Matches (get_or hs n []) (s ++ b ∷ []) → Seeds (Some b) old (After i) n ⊎ Jumped (After i) n (s ++ b ∷ [])
      to m =
          ⊎_elim
          (λ (x : IsSkippable i.now × Matches h (s ++ b ∷ [])). inr (n - 1, omega (arith, r.1), (x.0, omega (arith, r.1)), x.1))
          (λ (y : (Matches h s × Begins i.now b) ⊎ (Matches (h ++ i.now ∷ []) s × Continues i.now b)).
          ⊎_elim
          (λ (x : Matches h s × Begins i.now b). inl (inl (n - 1, omega (arith, r.1), (was (n - 1)).1 (omega (arith, r.1, lt), x.0), x.1)))
          (λ (x : Matches (h ++ i.now ∷ []) s × Continues i.now b). inl (inr ((was n).1 (lt, (r.2 s).1 x.0), x.1)))
          y)
          ((Matches-grow h i.now s b r.0).0 ((r.2 (s ++ b ∷ [])).0 m))

      grown : (IsSkippable i.now × Matches h (s ++ b ∷ [])) ⊎ (Matches h s × Begins i.now b) ⊎ (Matches (h ++ i.now ∷ []) s × Continues i.now b) → Matches (get_or hs n []) (s ++ b ∷ [])
      grown g = (r.2 (s ++ b ∷ [])).1 ((Matches-grow h i.now s b r.0).1 g)

      from : Seeds (Some b) old (After i) n ⊎ Jumped (After i) n (s ++ b ∷ []) → Matches (get_or hs n []) (s ++ b ∷ [])
      from x =
          ⊎_elim
          (λ (y : ((p : ℕ) × (n ≡ p + 1) × Contains old p × Begins i.now b) ⊎ (Contains old n × Continues i.now b)).
          ⊎_elim
          (λ (z : (p : ℕ) × (n ≡ p + 1) × Contains old p × Begins i.now b). grown (inr (inl (back z.0 n s z.1 ((was z.0).0 z.2).1, z.3))))
          (λ (z : Contains old n × Continues i.now b). grown (inr (inr ((r.2 s).0 ((was n).0 z.0).1, z.1))))
          y)
          (λ (j : Jumped (After i) n (s ++ b ∷ [])). grown (inl (j.2.0, back j.0 n (s ++ b ∷ []) j.2.1 j.3)))
          x
  meaning_some b old s was n (Same q) lt r = (λ m. inr ((same_to q n (s ++ b ∷ []) r).0 m), λ x. ⊎_elim (λ z. absurd z) (λ (j : Jumped (Same q) n (s ++ b ∷ [])). (same_to q n (s ++ b ∷ []) r).1 j) x)
  meaning_some b old s was n (Join ends) lt r = (λ m. inr ((join_to ends n (s ++ b ∷ []) r).0 m), λ x. ⊎_elim (λ z. absurd z) (λ (j : Jumped (Join ends) n (s ++ b ∷ [])). (join_to ends n (s ++ b ∷ []) r).1 j) x)

  meaning : (byte : Option ℕ) (old : List ℕ) (s t : List ℕ) → Leads byte s t → Stood byte hs old s → (n : ℕ) (node : Node) → n < length hs → Tells hs n node →
      Matches (get_or hs n []) t ↔ (Seeds byte old node n ⊎ Jumped node n t)
  meaning None old s t leads stood n node lt r = subst (λ u. Matches (get_or hs n []) u ↔ (Seeds None old node n ⊎ Jumped node n u)) (sym leads) (meaning_none old n node r)
  meaning (Some b) old s t leads stood n node lt r =
      subst (λ u. Matches (get_or hs n []) u ↔ (Seeds (Some b) old node n ⊎ Jumped node n u)) (sym leads) (meaning_some b old s stood n node lt r)

-- the bridge
pub spots_follow : (hs : List (List Item)) (nodes : List Node) (rows : List (List ℕ)) (byte : Option ℕ) (old seeds new : List ℕ) (s t : List ℕ) →
    length nodes ≡ length hs → ((n : ℕ) → n < length nodes → Tells hs n (get_or nodes n Start)) → AreJumps nodes rows → AreSeeds nodes byte old seeds → IsClosure rows seeds new → Leads byte s t → Stood byte hs old s →
    IsSpotsOf hs new t
spots_follow hs nodes rows byte old seeds new s t many tells jumps seeded closed leads stood =
    record { rising = closed.rising; exact = λ n. let e : n < n + 1 = omega arith in below (n + 1) n e }
  where
    at : (n : ℕ) → n < length hs → Matches (get_or hs n []) t ↔ (Seeds byte old (get_or nodes n Start) n ⊎ ((p : ℕ) × (p < n) × Jumps (get_or nodes n Start) n p × Matches (get_or hs p []) t))
    at n lt = meaning hs byte old s t leads stood n (get_or nodes n Start) lt (tells n (omega (arith, lt, many)))

    source : (n p : ℕ) → n < length hs → Jumps (get_or nodes n Start) n p → p < n
    source n p lt j = before (get_or nodes n Start) (tells n (omega (arith, lt, many))) j
      where
        before : (node : Node) → Tells hs n node → Jumps node n p → p < n
        before Start r j = absurd j
        before (After i) r j = omega (arith, j.1)
        before (Same q) r j = omega (arith, j, r.0)
        before (Join ends) r j = subst (λ z. z < n) j.2 (r.0 j.0 p j.1)

    to : (n : ℕ) → ((k : ℕ) → k < n → Contains new k ↔ ((k < length hs) × Matches (get_or hs k []) t)) → Contains new n → (n < length hs) × Matches (get_or hs n []) t
    to n ih c =
        let inside : n < length hs = omega (arith, closed.within n c, jumps.many, many) in (
          inside,
          (at n inside).1 (⊎_elim
              (λ x. inl ((seeded.exact n).0 x).1)
              (λ (x : (p : ℕ) × Contains new p × Contains (get_or rows p []) n).
              let j = ((jumps.exact x.0 n).0 x.2).1 in
              let up = source n x.0 inside j in
              inr (x.0, up, j, ((ih x.0 up).0 x.1).1))
              ((closed.exact n).0 c)),
        )

    from : (n : ℕ) → ((k : ℕ) → k < n → Contains new k ↔ ((k < length hs) × Matches (get_or hs k []) t)) → (n < length hs) × Matches (get_or hs n []) t → Contains new n
    from n ih q =
        (closed.exact n).1 (⊎_elim
        (λ x. inl ((seeded.exact n).1 (omega (arith, q.0, many), x)))
        (λ (j : (p : ℕ) × (p < n) × Jumps (get_or nodes n Start) n p × Matches (get_or hs p []) t).
        inr (j.0, (ih j.0 j.1).1 (omega (arith, j.1, q.0), j.3), (jumps.exact j.0 n).1 (omega (arith, q.0, many), j.2)))
        ((at n q.0).0 q.1))

    below : (m n : ℕ) → n < m → Contains new n ↔ ((n < length hs) × Matches (get_or hs n []) t)
    below zero n lt = absurd (omega arith)
    below (suc m) n lt = (to n (λ k l. below m k (omega (arith, l, lt))), from n (λ k l. below m k (omega (arith, l, lt))))

-- bytes that lead alike have the same seeds
alike_seeds : (nodes : List Node) (a b : ℕ) (old : List ℕ) → LeadAlike nodes a b old → (n : ℕ) (node : Node) → node ≡ get_or nodes n Start → Seeds (Some a) old node n → Seeds (Some b) old node n
alike_seeds nodes a b old like n Start e s = absurd s
alike_seeds nodes a b old like n (Same q) e s = absurd s
alike_seeds nodes a b old like n (Join ends) e s = absurd s
alike_seeds nodes a b old like n (After i) e s =
    ⊎_elim
    (λ (x : (p : ℕ) × (n ≡ p + 1) × Contains old p × Begins i.now a).
    let here : get_or nodes (x.0 + 1) Start ≡ After i = ap (λ k. get_or nodes k Start) (sym x.1) ∙ sym e in
    inl (x.0, x.1, x.2, subst (λ z. BeginsNode z b) here ((like x.0 x.2).0.0 (subst (λ z. BeginsNode z a) (sym here) x.3))))
    (λ (x : Contains old n × Continues i.now a).
    inr (x.0, subst (λ z. ContinuesNode z b) (sym e) ((like n x.0).1.0 (subst (λ z. ContinuesNode z a) e x.1))))
    s

-- so the set of a text and the one byte is that of the text and the other
pub spots_alike : (hs : List (List Item)) (nodes : List Node) (a b : ℕ) (old new s : List ℕ) →
    length nodes ≡ length hs → ((n : ℕ) → n < length nodes → Tells hs n (get_or nodes n Start)) → LeadAlike nodes a b old → Stands hs old s → IsSpotsOf hs new (s ++ a ∷ []) →
    IsSpotsOf hs new (s ++ b ∷ [])
spots_alike hs nodes a b old new s many tells like was spots = record {
  rising = spots.rising;
  exact = λ n. (
    λ c. let m = (spots.exact n).0 c in let e : n < n + 1 = omega arith in (m.0, there a b like (n + 1) n e m.0 m.1),
    λ m. let e : n < n + 1 = omega arith in (spots.exact n).1 (m.0, there b a (λ p c. let l = like p c in ((l.0.1, l.0.0), (l.1.1, l.1.0))) (n + 1) n e m.0 m.1),
  );
}
  where
    there : (x y : ℕ) → LeadAlike nodes x y old → (m n : ℕ) → n < m → n < length hs → Matches (get_or hs n []) (s ++ x ∷ []) → Matches (get_or hs n []) (s ++ y ∷ [])
    there x y alike zero n lt inside h = absurd (omega arith)
    there x y alike (suc m) n lt inside h =
        (meaning hs (Some y) old s (s ++ y ∷ []) refl was n (get_or nodes n Start) inside (tells n (omega (arith, inside, many)))).1
        (⊎_elim
        (λ z. inl (alike_seeds nodes x y old alike n (get_or nodes n Start) refl z))
        (λ (j : (p : ℕ) × (p < n) × Jumps (get_or nodes n Start) n p × Matches (get_or hs p []) (s ++ x ∷ [])).
        inr (j.0, j.1, j.2, there x y alike m j.0 (omega (arith, j.1, lt)) (omega (arith, j.1, inside)) j.3))
        ((meaning hs (Some x) old s (s ++ x ∷ []) refl was n (get_or nodes n Start) inside (tells n (omega (arith, inside, many)))).0 h))

-- which positions two texts stand at
pub same_spots : (hs : List (List Item)) (x : List ℕ) (s t : List ℕ) → Stands hs x s → Stands hs x t → (n : ℕ) → n < length hs → Matches (get_or hs n []) s ↔ Matches (get_or hs n []) t
same_spots hs x s t p q n lt = (λ m. ((q n).0 ((p n).1 (lt, m))).1, λ m. ((p n).0 ((q n).1 (lt, m))).1)
