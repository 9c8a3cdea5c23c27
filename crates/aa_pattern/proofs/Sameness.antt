-- The same items match the same texts.
use Rattle.std.proofs.Common.{◌↔◌, ℕ, List, [], ◌∷◌, subst, inl, inr, ⊎_elim}
use Rattle.aa_pattern.specs.declared.item.Item.{Item, Choice', Row_of-Item, end_of-Item, more_of-Item, Row_of-Item-Choice-0-1, end_of-Item-Choice-0-1, more_of-Item-Choice-0-1}
use Rattle.aa_pattern.specs.Globs.{Allows, SomeAllows, AllAllow}
use Rattle.aa_pattern.specs.Sameness.{SameItem, SameBranches, SameBranch, SameItemsMatch}

mutual
  item_allows : (a b : Item) (s : List ℕ) → SameItem a b → Allows a s ↔ Allows b s
  item_allows (Choice' _ a) (Choice' _ b) s h = some_allow a b s h
  item_allows a b s h = subst (λ i. Allows a s ↔ Allows i s) h (λ x. x, λ x. x)

  some_allow : {n m : _} (a : Row_of-Item-Choice-0-1 n) (b : Row_of-Item-Choice-0-1 m) (s : List ℕ) → SameBranches a b → SomeAllows a s ↔ SomeAllows b s
  some_allow end_of-Item-Choice-0-1 end_of-Item-Choice-0-1 s h = (λ x. x, λ x. x)
  some_allow (more_of-Item-Choice-0-1 _ a as') (more_of-Item-Choice-0-1 _ b bs) s h =
      let here = all_allow a b s h.0 in let later = some_allow as' bs s h.1 in
      (λ m. ⊎_elim (λ x. inl (here.0 x)) (λ x. inr (later.0 x)) m, λ m. ⊎_elim (λ x. inl (here.1 x)) (λ x. inr (later.1 x)) m)
  some_allow _ _ s h = absurd h

  all_allow : {n m : _} (a : Row_of-Item n) (b : Row_of-Item m) (s : List ℕ) → SameBranch a b → AllAllow a s ↔ AllAllow b s
  all_allow end_of-Item end_of-Item s h = (λ x. x, λ x. x)
  all_allow (more_of-Item a as') (more_of-Item b bs) s h = (
    λ m. (m.0, m.1, m.2, (item_allows a b m.0 h.0).0 m.3, (all_allow as' bs m.1 h.1).0 m.4),
    λ m. (m.0, m.1, m.2, (item_allows a b m.0 h.0).1 m.3, (all_allow as' bs m.1 h.1).1 m.4),
  )
  all_allow _ _ s h = absurd h

pub same_items_match : SameItemsMatch
same_items_match [] [] h s = (λ x. x, λ x. x)
same_items_match (a ∷ as') (b ∷ bs) h s = (
  λ m. (m.0, m.1, m.2, (item_allows a b m.0 h.0).0 m.3, (same_items_match as' bs h.1 m.1).0 m.4),
  λ m. (m.0, m.1, m.2, (item_allows a b m.0 h.0).1 m.3, (same_items_match as' bs h.1 m.1).1 m.4),
)
same_items_match [] (b ∷ bs) h s = absurd h
same_items_match (a ∷ as') [] h s = absurd h
