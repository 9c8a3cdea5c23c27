-- Items of one byte at the front.
use Rattle.std.proofs.Common.{arith}
use Rattle.std.proofs.Common.{◌≡◌, ℕ, ◌+◌, ◌<◌, ◌↔◌, List, [], ◌∷◌, length, drop, get_or, refl, sym, ap, subst}
use Rattle.std.proofs.lemmas.List.{drop_more}
use Rattle.aa_pattern.specs.declared.item.Item.{Item, Byte, One, Class}
use Rattle.aa_pattern.specs.Globs.{Allows, Matches, IsNonzeroByte}
use Rattle.aa_pattern.specs.Steps.{Begins, IsOneByte}
use Rattle.aa_pattern.proofs.Equivalences.{↔_trans}

one_byte : (i : Item) (s : List ℕ) → IsOneByte i → Allows i s → (b : ℕ) × (s ≡ b ∷ []) × Begins i b
one_byte (Byte c) s o a = (c, a.0, (refl, a.1))
one_byte One s o a = (a.0, a.1, a.2)
one_byte (Class set) s o a = (a.0, a.1, a.2)
one_byte _ s o a = absurd o

that_byte : (i : Item) (b : ℕ) → IsOneByte i → Begins i b → Allows i (b ∷ [])
that_byte (Byte c) b o h = (ap (λ x. x ∷ []) h.0, subst IsNonzeroByte h.0 h.1)
that_byte One b o h = (b, refl, h)
that_byte (Class set) b o h = (b, refl, h)
that_byte _ b o h = absurd o

pub front_match : (i : Item) (items : List Item) (b : ℕ) (s : List ℕ) → IsOneByte i → Begins i b → Matches (i ∷ items) (b ∷ s) ↔ Matches items s
front_match i items b s o h = grind (arith, one_byte, that_byte)

pub front_more : (items : List Item) (s : List ℕ) (k : ℕ) (d : Item) → k < length items → k < length s → IsOneByte (get_or items k d) → Begins (get_or items k d) (get_or s k 0) →
    (Matches items s ↔ Matches (drop k items) (drop k s)) → Matches items s ↔ Matches (drop (k + 1) items) (drop (k + 1) s)
front_more items s k d li ls o h same =
    ↔_trans same
    (subst (λ xs. Matches xs (drop k s) ↔ Matches (drop (k + 1) items) (drop (k + 1) s)) (sym (drop_more items k d li))
    (subst (λ t. Matches (get_or items k d ∷ drop (k + 1) items) t ↔ Matches (drop (k + 1) items) (drop (k + 1) s)) (sym (drop_more s k 0 ls))
    (front_match (get_or items k d) (drop (k + 1) items) (get_or s k 0) (drop (k + 1) s) o h)))
