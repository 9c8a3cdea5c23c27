-- Heads and weights, one more item at a time.
use Rattle.std.proofs.Common.{slice_get, ◌≡◌, ℕ, ◌⊎◌, Some, List, [], ◌∷◌, ◌++◌, length, suc, zero, Vec, Global, refl, sym, ap, ◌∙◌, inl, inr, ⊎_elim, append_assoc}
use Rattle.std.proofs.lemmas.List.{append-nil}
use Rattle.aa_pattern.specs.declared.item.Item.{Item, Byte, One, Run, RunOne, Deep, DeepOne, Class, Choice, Choice', roll-Item, roll-out-Item}
use Rattle.aa_pattern.specs.declared.item.Item.TheVariants.{outs-Choice', rolls-Choice}
use Rattle.aa_pattern.specs.declared.pattern.Pattern.{Pattern}
use Rattle.aa_pattern.specs.Steps.{IsSimple}
use Rattle.aa_pattern.specs.Heads.{heads_within, heads_after, heads_of_choice, heads_of_patterns}

pub within_none : (h : List Item) (i : Item) → IsSimple i → heads_within h i ≡ []
within_none h (Byte c) _ = refl
within_none h One _ = refl
within_none h Run _ = refl
within_none h RunOne _ = refl
within_none h Deep _ = refl
within_none h DeepOne _ = refl
within_none h (Class set) _ = refl
within_none h (Choice' _ _) z = absurd z

pub not_choice : (i : Item) → ((v : Vec (Vec Item Global) Global) → i ≡ Choice v → ⊥) → IsSimple i
not_choice (Byte c) never = tt
not_choice One never = tt
not_choice Run never = tt
not_choice RunOne never = tt
not_choice Deep never = tt
not_choice DeepOne never = tt
not_choice (Class set) never = tt
not_choice (Choice' shape rows) never =
    never _ (sym (roll-out-Item (Choice' shape rows)) ∙ ap roll-Item (outs-Choice' shape rows) ∙ rolls-Choice _)

pub heads_after-push : (h xs : List Item) (i : Item) →
    heads_after h (xs ++ i ∷ []) ≡ heads_after h xs ++ (heads_within (h ++ xs) i ++ (h ++ (xs ++ i ∷ [])) ∷ [])
heads_after-push h [] i = simp append-nil
heads_after-push h (x ∷ xs) i =
    ap (λ z. heads_within h x ++ (h ++ x ∷ []) ∷ z) (heads_after-push (h ++ x ∷ []) xs i) ∙ simp append_assoc

pub heads_of_patterns-push : (ps : List Pattern) (p : Pattern) → heads_of_patterns (ps ++ p ∷ []) ≡ heads_of_patterns ps ++ ([] ∷ heads_after [] p.items.items)
heads_of_patterns-push [] p = append-nil ([] ∷ heads_after [] p.items.items)
heads_of_patterns-push (q ∷ ps) p =
    ap (λ z. ([] ∷ heads_after [] q.items.items) ++ z) (heads_of_patterns-push ps p)
    ∙ sym (append_assoc ([] ∷ heads_after [] q.items.items) (heads_of_patterns ps) ([] ∷ heads_after [] p.items.items))

pub heads_of_choice-push : (h : List Item) (cs : List (Vec Item Global)) (b : Vec Item Global) → heads_of_choice h (cs ++ b ∷ []) ≡ heads_of_choice h cs ++ (h ∷ heads_after h b.items)
heads_of_choice-push h [] b = append-nil (h ∷ heads_after h b.items)
heads_of_choice-push h (c ∷ cs) b = ap (λ z. (h ∷ heads_after h c.items) ++ z) (heads_of_choice-push h cs b) ∙ sym (append_assoc (h ∷ heads_after h c.items) (heads_of_choice h cs) (h ∷ heads_after h b.items))

pub pattern_either : (p : Pattern) (qs : List Pattern) (n : ℕ) (q : Pattern) → slice_get (qs ++ p ∷ []) n ≡ Some q → (slice_get qs n ≡ Some q) ⊎ ((length qs ≡ n) × (p ≡ q))
pattern_either p [] zero q e = inr (refl, cc e)
pattern_either p [] (suc n) q e = absurd (cc e)
pattern_either p (x ∷ qs) zero q e = inl e
pattern_either p (x ∷ qs) (suc n) q e = ⊎_elim (λ h. inl h) (λ h. inr (ap suc h.0, h.1)) (pattern_either p qs n q e)
