-- What one more byte does to what is matched.
use Rattle.std.proofs.lemmas.Grind.{common_steps}
use Rattle.std.proofs.Common.{arith}
use Rattle.std.proofs.Common.{◌≡◌, ◌≢◌, ℕ, ◌↔◌, ◌⊎◌, List, [], ◌∷◌, ◌++◌, All, refl, sym, ap, ◌∙◌, subst, inl, inr, ⊎_elim, append_assoc}
use Rattle.std.proofs.lemmas.List.{same_from_push, append-nil}
use Rattle.std.proofs.lemmas.List.Elements.{All-nil, All-cons, All-head, All-tail, All-push}
use Rattle.aa_pattern.specs.declared.item.Item.{Item, Byte, One, Run, RunOne, Deep, DeepOne, Class, Choice'}
use Rattle.aa_pattern.specs.Globs.{Allows, Matches, IsNonzeroByte, IsNameByte}
use Rattle.aa_pattern.specs.Steps.{Begins, Continues, IsSkippable, IsSimple}
use Rattle.aa_pattern.specs.Flags.{Grows}

pub Matches-append : (g h : List Item) (s : List ℕ) →
    Matches (g ++ h) s ↔ ((a : List ℕ) × (b : List ℕ) × (s ≡ a ++ b) × Matches g a × Matches h b)
Matches-append [] h s = (λ m. ([], s, refl, refl, m), λ p. subst (Matches h) (sym (p.2 ∙ ap (λ a. a ++ p.1) p.3)) p.4)
Matches-append (i ∷ g) h s = (
  λ m. let r = (Matches-append g h m.1).0 m.4 in
      (m.0 ++ r.0, r.1, m.2 ∙ ap (λ z. m.0 ++ z) r.2 ∙ sym (append_assoc m.0 r.0 r.1), (m.0, r.0, refl, m.3, r.3), r.4),
  λ p. let m = p.3 in
      (m.0, m.1 ++ p.1, p.2 ∙ ap (λ z. z ++ p.1) m.2 ∙ append_assoc m.0 m.1 p.1, m.3, (Matches-append g h (m.1 ++ p.1)).1 (m.1, p.1, refl, m.4, p.4)),
)

pub Matches-push : (h : List Item) (i : Item) (s : List ℕ) →
    Matches (h ++ i ∷ []) s ↔ ((a : List ℕ) × (b : List ℕ) × (s ≡ a ++ b) × Matches h a × Allows i b)
Matches-push h i s = grind (arith, append-nil, Matches-append)

-- a text that begins as a part of the item may, and goes on so
abbrev pub IsPart : Item → List ℕ → Type 0
IsPart i [] = IsSkippable i
IsPart i (b ∷ s) = Begins i b × All (Continues i) s

none_left : {P : ℕ → Type 0} (s : List ℕ) → ((b : ℕ) → P b → ⊥) → All P s → s ≡ []
none_left [] none all = refl
none_left {P} (b ∷ s) none all = absurd (none b (All-head P b s all))

single : (i : Item) (P : ℕ → Type 0) (s : List ℕ) → ((b : ℕ) → Continues i b → ⊥) → (IsSkippable i → ⊥) → ((b : ℕ) → P b ↔ Begins i b) →
    ((b : ℕ) × (s ≡ b ∷ []) × P b) ↔ IsPart i s
single i P [] none never same = (λ h. absurd (cc h.1), λ p. absurd (never p))
single i P (x ∷ s) none never same = grind (arith, All-nil, none_left)

same_iff : {P : Type 0} → P ↔ P
same_iff = (λ p. p, λ p. p)

pub allows_part : (i : Item) (s : List ℕ) → IsSimple i → Allows i s ↔ IsPart i s
allows_part (Byte c) [] _ = (λ h. absurd (cc h.0), λ p. absurd p)
allows_part (Byte c) (x ∷ s) _ = grind (arith, All-nil, none_left)
allows_part One s _ = single One IsNameByte s (λ b z. z) (λ z. z) (λ b. same_iff)
allows_part (Class set) s _ = single (Class set) (Begins (Class set)) s (λ b z. z) (λ z. z) (λ b. same_iff)
allows_part Run [] _ = (λ h. tt, λ p. All-nil IsNameByte)
allows_part Run (x ∷ s) _ = (λ h. (All-head IsNameByte x s h, All-tail IsNameByte x s h), λ p. All-cons IsNameByte x s p.0 p.1)
allows_part Deep [] _ = (λ h. tt, λ p. All-nil IsNonzeroByte)
allows_part Deep (x ∷ s) _ = (λ h. (All-head IsNonzeroByte x s h, All-tail IsNonzeroByte x s h), λ p. All-cons IsNonzeroByte x s p.0 p.1)
allows_part RunOne [] _ = (λ h. absurd (h.1 refl), λ p. absurd p)
allows_part RunOne (x ∷ s) _ = (λ h. (All-head IsNameByte x s h.0, All-tail IsNameByte x s h.0), λ p. (All-cons IsNameByte x s p.0 p.1, λ e. cc e))
allows_part DeepOne [] _ = (λ h. absurd (cc h.2), λ p. absurd p)
allows_part DeepOne (x ∷ s) _ = grind (arith)
allows_part (Choice' _ _) s z = absurd z

-- where a part may be empty, it may begin as it goes on
pub begins_as_on : (i : Item) (b : ℕ) → IsSkippable i → Continues i b → Begins i b
begins_as_on Run b _ h = h
begins_as_on Deep b _ h = h
begins_as_on _ b z h = absurd z

-- a text is empty, or has a last byte
last_byte : (c : List ℕ) → (c ≡ []) ⊎ ((d : List ℕ) × (b : ℕ) × (c ≡ d ++ b ∷ []))
last_byte [] = inl refl
last_byte (x ∷ c) = ⊎_elim (λ e. inr ([], x, ap (λ z. x ∷ z) e)) (λ p. inr (x ∷ p.0, p.1, ap (λ z. x ∷ z) p.2)) (last_byte c)

pub not_empty : (b : ℕ) (c : List ℕ) → c ++ b ∷ [] ≡ [] → ⊥
not_empty b [] e = cc e
not_empty b (x ∷ c) e = cc e

-- what a part becomes by one more byte
part-push : (i : Item) (c : List ℕ) (b : ℕ) → IsPart i (c ++ b ∷ []) ↔ (((c ≡ []) × Begins i b) ⊎ (IsPart i c × (c ≢ []) × Continues i b))
part-push i [] b = (λ p. inl (refl, p.0), λ q. ⊎_elim (λ h. (h.1, All-nil (Continues i))) (λ h. absurd (h.1 refl)) q)
part-push i (x ∷ c) b = (
  λ p. inr ((p.0, All-front c b p.1), (λ e. cc e), All-last c b p.1),
  λ q. ⊎_elim (λ h. absurd (cc h.0)) (λ h. (h.0.0, All-push (Continues i) c b h.0.1 h.2)) q,
)
  where
    All-front : (c : List ℕ) (b : ℕ) → All (Continues i) (c ++ b ∷ []) → All (Continues i) c
    All-front [] b all = All-nil (Continues i)
    All-front (y ∷ c) b all = All-cons (Continues i) y c (All-head (Continues i) y (c ++ b ∷ []) all) (All-front c b (All-tail (Continues i) y (c ++ b ∷ []) all))

    All-last : (c : List ℕ) (b : ℕ) → All (Continues i) (c ++ b ∷ []) → Continues i b
    All-last [] b all = All-head (Continues i) b [] all
    All-last (y ∷ c) b all = All-last c b (All-tail (Continues i) y (c ++ b ∷ []) all)

-- what stands before a simple item, and the item: the text is empty
pub Matches-skip : (h : List Item) (i : Item) → IsSimple i → Matches (h ++ i ∷ []) [] ↔ (IsSkippable i × Matches h [])
Matches-skip h i simple = grind (arith, common_steps, Matches-push, allows_part)

-- and where the text has a last byte
pub Matches-grow : (h : List Item) (i : Item) (s : List ℕ) (b : ℕ) → IsSimple i →
    Matches (h ++ i ∷ []) (s ++ b ∷ []) ↔ Grows i b (Matches h (s ++ b ∷ [])) (Matches h s) (Matches (h ++ i ∷ []) s)
Matches-grow h i s b simple = (to, from)
  where
    to : Matches (h ++ i ∷ []) (s ++ b ∷ []) → Grows i b (Matches h (s ++ b ∷ [])) (Matches h s) (Matches (h ++ i ∷ []) s)
    to m =
        let p = (Matches-push h i (s ++ b ∷ [])).0 m in
        ⊎_elim
        (λ (e : p.1 ≡ []). inl ((allows_part i [] simple).0 (subst (Allows i) e p.4), subst (Matches h) (sym (p.2 ∙ ap (λ z. p.0 ++ z) e ∙ append-nil p.0)) p.3))
        (λ (d : (c : List ℕ) × (x : ℕ) × (p.1 ≡ c ++ x ∷ [])).
        let joined : s ++ b ∷ [] ≡ (p.0 ++ d.0) ++ d.1 ∷ [] = p.2 ∙ ap (λ z. p.0 ++ z) d.2 ∙ sym (append_assoc p.0 d.0 (d.1 ∷ [])) in
        let same = same_from_push s (p.0 ++ d.0) b d.1 joined in
        let part = (part-push i d.0 d.1).0 ((allows_part i (d.0 ++ d.1 ∷ []) simple).0 (subst (Allows i) d.2 p.4)) in
        ⊎_elim
        (λ (q : (d.0 ≡ []) × Begins i d.1). inr (inl (subst (Matches h) (sym (same.0 ∙ ap (λ z. p.0 ++ z) q.0 ∙ append-nil p.0)) p.3, subst (Begins i) (sym same.1) q.1)))
        (λ (q : IsPart i d.0 × (d.0 ≢ []) × Continues i d.1). inr (inr ((Matches-push h i s).1 (p.0, d.0, same.0, p.3, (allows_part i d.0 simple).1 q.0), subst (Continues i) (sym same.1) q.2)))
        part)
        (last_byte p.1)

    begin : Matches h s → Begins i b → Matches (h ++ i ∷ []) (s ++ b ∷ [])
    begin m x = (Matches-push h i (s ++ b ∷ [])).1 (s, b ∷ [], refl, m, (allows_part i (b ∷ []) simple).1 (x, All-nil (Continues i)))

    from : Grows i b (Matches h (s ++ b ∷ [])) (Matches h s) (Matches (h ++ i ∷ []) s) → Matches (h ++ i ∷ []) (s ++ b ∷ [])
    from q =
        ⊎_elim
        (λ (x : IsSkippable i × Matches h (s ++ b ∷ [])). (Matches-push h i (s ++ b ∷ [])).1 (s ++ b ∷ [], [], sym (append-nil (s ++ b ∷ [])), x.1, (allows_part i [] simple).1 x.0))
        (λ (y : (Matches h s × Begins i b) ⊎ (Matches (h ++ i ∷ []) s × Continues i b)).
        ⊎_elim
        (λ (x : Matches h s × Begins i b). begin x.0 x.1)
        (λ (x : Matches (h ++ i ∷ []) s × Continues i b).
        let p = (Matches-push h i s).0 x.0 in
        let part = (allows_part i p.1 simple).0 p.4 in
        ⊎_elim
        (λ (e : p.1 ≡ []). begin (subst (Matches h) (sym (p.2 ∙ ap (λ z. p.0 ++ z) e ∙ append-nil p.0)) p.3) (begins_as_on i b (subst (IsPart i) e part) x.1))
        (λ (d : (c : List ℕ) × (z : ℕ) × (p.1 ≡ c ++ z ∷ [])).
        let some : p.1 ≢ [] = λ e. not_empty d.1 d.0 (sym d.2 ∙ e) in
        (Matches-push h i (s ++ b ∷ [])).1 (
          p.0,
          p.1 ++ b ∷ [],
          ap (λ z. z ++ b ∷ []) p.2 ∙ append_assoc p.0 p.1 (b ∷ []),
          p.3,
          (allows_part i (p.1 ++ b ∷ []) simple).1 ((part-push i p.1 b).1 (inr (part, some, x.1))),
        ))
        (last_byte p.1))
        y)
        q
