-- The positions that a byte leads to, one start after the other.
use Rattle.std.proofs.Common.{Contains, ◌≡◌, ℕ, ◌+◌, ◌≤◌, ◌<◌, ◌↔◌, ◌⊎◌, Bool, Some, None, Result, Ok, Err, IfOk, OnOk, List, []}
use Rattle.std.proofs.Common.{◌∷◌, ◌++◌, length, get_or, take, suc, zero, IsTrue, refl, sym, ap, ◌∙◌, subst, inl, inr, ⊎_elim, arith}
use Rattle.std.proofs.lemmas.List.{take_more}
use Rattle.std.proofs.lemmas.List.Elements.{Contains-push, Contains-push_cases, Contains-append_left}
use Rattle.std.proofs.lemmas.Bool.{cases_lt}
use Rattle.aa_auto.specs.declared.nodes.Node.{Node}
use Rattle.aa_auto.specs.declared.nodes.Node.TheVariants.{Start, After, Same, Join}
use Rattle.aa_auto.specs.Sorted.{Inserts, InsertsIf}
use Rattle.aa_auto.specs.Spots.{Seeds, AreSeeds, AddsMoves, MovesFrom, BeginsAt, ContinuesAt, IsStart, AreStarts, BeginsNode, ContinuesNode, LeadsAlike, LeadAlike}

pub on_ok : {T E : Type 0} (r : Result T E) {P Q : Type 0} → (P → Q) → OnOk r P → OnOk r Q
on_ok (Ok x) f p = f p
on_ok (Err e) f p = tt

pub if_ok : {T E : Type 0} (r : Result T E) (P Q : T → Type 0) → ((x : T) → P x → Q x) → IfOk r P → IfOk r Q
if_ok (Ok x) P Q f p = f x p
if_ok (Err e) P Q f p = tt

pub insert_wanted : (old new : List ℕ) (v : ℕ) (w : Bool) → IsTrue w → Inserts old new v → InsertsIf old new v w
insert_wanted old new v w is ins = record {
  rising = ins.rising;
  exact = λ n. (
    λ c. ⊎_elim (λ o. inl o) (λ (e : n ≡ v). inr (e, is)) ((ins.exact n).0 c),
    λ s. (ins.exact n).1 (⊎_elim (λ o. inl o) (λ (e : (n ≡ v) × IsTrue w). inr e.0) s),
  );
}

pub moves_made : (nodes : List Node) (b start : ℕ) (old mid new : List ℕ) (stays goes : Bool) → (IsTrue stays ↔ ContinuesAt nodes start b) → (IsTrue goes ↔ BeginsAt nodes (start + 1) b) →
    InsertsIf old mid start stays → InsertsIf mid new (start + 1) goes → AddsMoves nodes b start old new
moves_made nodes b start old mid new stays goes f g one two = record {
  rising = two.rising;
  exact = λ n. (
    λ c. ⊎_elim
        (λ m. ⊎_elim (λ o. inl o) (λ (e : (n ≡ start) × IsTrue stays). inr (inr (e.0, subst (λ k. ContinuesAt nodes k b) (sym e.0) (f.0 e.1)))) ((one.exact n).0 m))
        (λ (e : (n ≡ start + 1) × IsTrue goes). inr (inl (e.0, subst (λ k. BeginsAt nodes k b) (sym e.0) (g.0 e.1))))
        ((two.exact n).0 c),
    λ s. ⊎_elim
        (λ o. (two.exact n).1 (inl ((one.exact n).1 (inl o))))
        (λ (q : ((n ≡ start + 1) × BeginsAt nodes n b) ⊎ ((n ≡ start) × ContinuesAt nodes n b)). ⊎_elim
        (λ (e : (n ≡ start + 1) × BeginsAt nodes n b). (two.exact n).1 (inr (e.0, g.1 (subst (λ k. BeginsAt nodes k b) e.0 e.1))))
        (λ (e : (n ≡ start) × ContinuesAt nodes n b). (two.exact n).1 (inl ((one.exact n).1 (inr (e.0, f.1 (subst (λ k. ContinuesAt nodes k b) e.0 e.1))))))
        q)
        s,
  );
}

pub moves_more : (nodes : List Node) (b : ℕ) (old mid new : List ℕ) (k v : ℕ) → k < length old → v ≡ get_or old k 0 → MovesFrom nodes b (take k old) mid → AddsMoves nodes b v mid new →
    MovesFrom nodes b (take (k + 1) old) new
moves_more nodes b old mid new k v lt is front one =
    subst (λ z. MovesFrom nodes b z new) (sym (take_more old k 0 lt ∙ ap (λ z. take k old ++ z ∷ []) (sym is))) (record { rising = one.rising; exact = λ n. (to n, from n) })
  where
    xs : List ℕ
    xs = take k old

    to : (n : ℕ) → Contains new n → ((p : ℕ) × Contains (xs ++ v ∷ []) p × (n ≡ p + 1) × BeginsAt nodes n b) ⊎ (Contains (xs ++ v ∷ []) n × ContinuesAt nodes n b)
    to n c = ⊎_elim
        (λ m. ⊎_elim
        (λ (x : (p : ℕ) × Contains xs p × (n ≡ p + 1) × BeginsAt nodes n b). inl (x.0, Contains-append_left xs (v ∷ []) x.0 x.1, x.2, x.3))
        (λ (x : Contains xs n × ContinuesAt nodes n b). inr (Contains-append_left xs (v ∷ []) n x.0, x.1))
        ((front.exact n).0 m))
        (λ (q : ((n ≡ v + 1) × BeginsAt nodes n b) ⊎ ((n ≡ v) × ContinuesAt nodes n b)). ⊎_elim
        (λ (e : (n ≡ v + 1) × BeginsAt nodes n b). inl (v, Contains-push xs v, e.0, e.1))
        (λ (e : (n ≡ v) × ContinuesAt nodes n b). inr (subst (λ z. Contains (xs ++ v ∷ []) z) (sym e.0) (Contains-push xs v), e.1))
        q)
        ((one.exact n).0 c)

    from : (n : ℕ) → ((p : ℕ) × Contains (xs ++ v ∷ []) p × (n ≡ p + 1) × BeginsAt nodes n b) ⊎ (Contains (xs ++ v ∷ []) n × ContinuesAt nodes n b) → Contains new n
    from n s = ⊎_elim
        (λ (x : (p : ℕ) × Contains (xs ++ v ∷ []) p × (n ≡ p + 1) × BeginsAt nodes n b). ⊎_elim
        (λ c. (one.exact n).1 (inl ((front.exact n).1 (inl (x.0, c, x.2, x.3)))))
        (λ (e : v ≡ x.0). (one.exact n).1 (inr (inl (omega (arith, x.2, e), x.3))))
        (Contains-push_cases xs v x.0 x.1))
        (λ (x : Contains (xs ++ v ∷ []) n × ContinuesAt nodes n b). ⊎_elim
        (λ c. (one.exact n).1 (inl ((front.exact n).1 (inr (c, x.1)))))
        (λ (e : v ≡ n). (one.exact n).1 (inr (inr (sym e, x.1))))
        (Contains-push_cases xs v n x.0))
        s

pub alike_more : (nodes : List Node) (a b : ℕ) (set : List ℕ) (k v : ℕ) → k < length set → v ≡ get_or set k 0 → LeadAlike nodes a b (take k set) → LeadsAlike nodes a b v → LeadAlike nodes a b (take (k + 1) set)
alike_more nodes a b set k v lt is front one =
    subst (λ z. LeadAlike nodes a b z) (sym (take_more set k 0 lt ∙ ap (λ z. take k set ++ z ∷ []) (sym is)))
    (λ p c. ⊎_elim (λ o. front p o) (λ (e : v ≡ p). subst (λ z. LeadsAlike nodes a b z) e one) (Contains-push_cases (take k set) v p c))

pub starts_none : (nodes : List Node) (xs : List ℕ) → xs ≡ [] → AreStarts nodes 0 xs
starts_none nodes xs e = subst (λ z. AreStarts nodes 0 z) (sym e) (record {
  rising = λ k lt. absurd (omega arith);
  exact = λ n. (λ (c : Contains [] n). absurd (omega (arith, c.1)), λ q. absurd (omega (arith, q.0)));
})

pub starts_more : (nodes : List Node) (k : ℕ) (xs ys : List ℕ) (w : Bool) → (IsTrue w ↔ IsStart (get_or nodes k Start)) → AreStarts nodes k xs → InsertsIf xs ys k w → AreStarts nodes (k + 1) ys
starts_more nodes k xs ys w is front one = record {
  rising = one.rising;
  exact = λ n. (
    λ c. ⊎_elim
        (λ o. let q = (front.exact n).0 o in (omega (arith, q.0), q.1))
        (λ (e : (n ≡ k) × IsTrue w). (omega (arith, e.0), subst (λ z. IsStart (get_or nodes z Start)) (sym e.0) (is.0 e.1)))
        ((one.exact n).0 c),
    λ q. (one.exact n).1 (⊎_elim
        (λ (l : n < k). inl ((front.exact n).1 (l, q.1)))
        (λ (g : k ≤ n). let e : n ≡ k = omega (arith, q.0) in inr (e, is.1 (subst (λ z. IsStart (get_or nodes z Start)) e q.1)))
        (cases_lt n k)),
  );
}

seeds_start : (node : Node) (n : ℕ) → IsStart node ↔ Seeds None [] node n
seeds_start Start n = (λ s. s, λ s. s)
seeds_start (After i) n = (λ s. s, λ s. s)
seeds_start (Same p) n = (λ s. s, λ s. s)
seeds_start (Join ends) n = (λ s. s, λ s. s)

pub starts_all : (nodes : List Node) (k : ℕ) (xs : List ℕ) → k ≡ length nodes → AreStarts nodes k xs → AreSeeds nodes None [] xs
starts_all nodes k xs e all = record {
  rising = all.rising;
  exact = λ n. (
    λ c. let q = (all.exact n).0 c in (omega (arith, q.0, e), (seeds_start (get_or nodes n Start) n).0 q.1),
    λ q. (all.exact n).1 (omega (arith, q.0, e), (seeds_start (get_or nodes n Start) n).1 q.1),
  );
}

-- the positions that a byte leads to are seeds
seeds_moves : (nodes : List Node) (b : ℕ) (old : List ℕ) (n : ℕ) (node : Node) →
    (((p : ℕ) × Contains old p × (n ≡ p + 1) × BeginsNode node b) ⊎ (Contains old n × ContinuesNode node b)) ↔ Seeds (Some b) old node n
seeds_moves nodes b old n Start = (λ s. ⊎_elim (λ (x : (p : ℕ) × Contains old p × (n ≡ p + 1) × ⊥). x.3) (λ (x : Contains old n × ⊥). x.1) s, λ z. absurd z)
seeds_moves nodes b old n (Same q) = (λ s. ⊎_elim (λ (x : (p : ℕ) × Contains old p × (n ≡ p + 1) × ⊥). x.3) (λ (x : Contains old n × ⊥). x.1) s, λ z. absurd z)
seeds_moves nodes b old n (Join ends) = (λ s. ⊎_elim (λ (x : (p : ℕ) × Contains old p × (n ≡ p + 1) × ⊥). x.3) (λ (x : Contains old n × ⊥). x.1) s, λ z. absurd z)
seeds_moves nodes b old n (After i) = (
  λ s. ⊎_elim (λ (x : (p : ℕ) × Contains old p × (n ≡ p + 1) × BeginsNode (After i) b). inl (x.0, x.2, x.1, x.3)) (λ (x : Contains old n × ContinuesNode (After i) b). inr x) s,
  λ s. ⊎_elim (λ (x : (p : ℕ) × (n ≡ p + 1) × Contains old p × BeginsNode (After i) b). inl (x.0, x.2, x.1, x.3)) (λ (x : Contains old n × ContinuesNode (After i) b). inr x) s,
)

seeds_within : (nodes : List Node) (b : ℕ) (old : List ℕ) (n : ℕ) → Seeds (Some b) old (get_or nodes n Start) n → n < length nodes
seeds_within nodes b old n s = ⊎_elim (λ l. l) (λ (g : length nodes ≤ n). absurd (subst (λ z. Seeds (Some b) old z n) (past nodes n g) s)) (cases_lt n (length nodes))
  where
    past : (xs : List Node) (m : ℕ) → length xs ≤ m → get_or xs m Start ≡ Start
    past [] m g = refl
    past (x ∷ xs) zero g = absurd (omega arith)
    past (x ∷ xs) (suc m) g = past xs m (omega arith)

pub seeds_from_moves : (nodes : List Node) (b : ℕ) (old new : List ℕ) → MovesFrom nodes b old new → AreSeeds nodes (Some b) old new
seeds_from_moves nodes b old new moves = record {
  rising = moves.rising;
  exact = λ n. (
    λ c. let s = (seeds_moves nodes b old n (get_or nodes n Start)).0 ((moves.exact n).0 c) in (seeds_within nodes b old n s, s),
    λ q. (moves.exact n).1 ((seeds_moves nodes b old n (get_or nodes n Start)).1 q.1),
  );
}
