-- Bytes that no item tells apart, one more item at a time.
use Rattle.std.proofs.Common.{ℕ, ◌↔◌, List, [], ◌∷◌, ◌++◌, Vec, Global, sym, subst}
use Rattle.aa_pattern.specs.declared.item.Item.{Item, Byte, One, Run, RunOne, Deep, DeepOne, Class, Choice, Choice', Row_of-Item, end_of-Item, more_of-Item}
use Rattle.aa_pattern.specs.declared.item.Item.{items-the_row-Item, items_shown-the_row-Item-0, Row_of-Item-Choice-0-1, end_of-Item-Choice-0-1}
use Rattle.aa_pattern.specs.declared.item.Item.{more_of-Item-Choice-0-1, items-the_row-Item-Choice-0-1, items_hidden-the_row-Item-Choice-0-1-1}
use Rattle.aa_pattern.specs.declared.pattern.Pattern.{Pattern}
use Rattle.aa_auto.specs.declared.nodes.Node.{Node}
use Rattle.aa_pattern.specs.Steps.{IsSimple, Begins, Continues}
use Rattle.aa_pattern.proofs.Rows.{rows_of}
use Rattle.aa_auto.specs.Classes.{IsSameFor, IsSameForBranches, IsSameForRow, IsSameForItems, IsSameForLists, IsSame}
use Rattle.aa_auto.specs.Nodes.{AreSameNodes}

module _ (a b : ℕ) where
  pub AreSameNodes-append : (xs ys : List Node) → AreSameNodes (xs ++ ys) a b ↔ (AreSameNodes xs a b × AreSameNodes ys a b)
  AreSameNodes-append [] ys = (λ s. (tt, s), λ s. s.1)
  AreSameNodes-append (x ∷ xs) ys =
      let r = AreSameNodes-append xs ys in
      (λ s. let u = r.0 s.1 in ((s.0, u.0), u.1), λ s. (s.0.0, r.1 (s.0.1, s.1)))

  pub IsSameForItems-push : (xs : List Item) (i : Item) → IsSameForItems (xs ++ i ∷ []) a b ↔ (IsSameForItems xs a b × IsSameFor i a b)
  IsSameForItems-push [] i = (λ s. (tt, s.0), λ s. (s.1, tt))
  IsSameForItems-push (x ∷ xs) i =
      let r = IsSameForItems-push xs i in
      (λ s. let u = r.0 s.1 in ((s.0, u.0), u.1), λ s. (s.0.0, r.1 (s.0.1, s.1)))

  pub IsSameForLists-push : (xs : List (Vec Item Global)) (v : Vec Item Global) → IsSameForLists (xs ++ v ∷ []) a b ↔ (IsSameForLists xs a b × IsSameForItems v.items a b)
  IsSameForLists-push [] v = (λ s. (tt, s.0), λ s. (s.1, tt))
  IsSameForLists-push (x ∷ xs) v =
      let r = IsSameForLists-push xs v in
      (λ s. let u = r.0 s.1 in ((s.0, u.0), u.1), λ s. (s.0.0, r.1 (s.0.1, s.1)))

  pub IsSame-push : (ps : List Pattern) (p : Pattern) → IsSame (ps ++ p ∷ []) a b ↔ (IsSame ps a b × IsSameForItems p.items.items a b)
  IsSame-push [] p = (λ s. (tt, s.0), λ s. (s.1, tt))
  IsSame-push (x ∷ ps) p =
      let r = IsSame-push ps p in
      (λ s. let u = r.0 s.1 in ((s.0, u.0), u.1), λ s. (s.0.0, r.1 (s.0.1, s.1)))

  pub same_row : {n : _} (row : Row_of-Item n) → IsSameForRow row a b ↔ IsSameForItems (items-the_row-Item _ row) a b
  same_row end_of-Item = (λ s. s, λ s. s)
  same_row (more_of-Item item rest) = (λ s. (s.0, (same_row rest).0 s.1), λ s. (s.0, (same_row rest).1 s.1))

  same_rows : {n : _} (rows : Row_of-Item-Choice-0-1 n) → IsSameForBranches rows a b ↔ IsSameForLists (items-the_row-Item-Choice-0-1 _ rows) a b
  same_rows end_of-Item-Choice-0-1 = (λ s. s, λ s. s)
  same_rows (more_of-Item-Choice-0-1 shape branch rest) =
      let same = items_shown-the_row-Item-0 shape branch in (
        λ s. (subst (λ xs. IsSameForItems xs a b) (sym same) ((same_row branch).0 s.0), (same_rows rest).0 s.1),
        λ s. ((same_row branch).1 (subst (λ xs. IsSameForItems xs a b) same s.0), (same_rows rest).1 s.1),
      )

  pub IsSameFor-Choice : (v : Vec (Vec Item Global) Global) → IsSameFor (Choice v) a b ↔ IsSameForLists v.items a b
  IsSameFor-Choice v = subst (λ bs. IsSameFor (Choice v) a b ↔ IsSameForLists bs a b) (items_hidden-the_row-Item-Choice-0-1-1 v) (same_rows (rows_of (Choice v)).1)

  pub same_simple : (i : Item) → IsSimple i → ((Begins i a ↔ Begins i b) × (Continues i a ↔ Continues i b)) ↔ IsSameFor i a b
  same_simple (Byte c) _ = (λ s. s, λ s. s)
  same_simple One _ = (λ s. s, λ s. s)
  same_simple Run _ = (λ s. s, λ s. s)
  same_simple RunOne _ = (λ s. s, λ s. s)
  same_simple Deep _ = (λ s. s, λ s. s)
  same_simple DeepOne _ = (λ s. s, λ s. s)
  same_simple (Class set) _ = (λ s. s, λ s. s)
  same_simple (Choice' _ _) z = absurd z
