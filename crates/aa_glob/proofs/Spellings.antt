-- A spelling has one source.
use Rattle.std.proofs.Common.{◌≡◌, List, [], ◌∷◌, ◌++◌, sym, ◌∙◌, subst, append_assoc}
use Rattle.aa_pattern.specs.declared.item.Item.{Item, Choice', Row_of-Item, end_of-Item, more_of-Item, Row_of-Item-Choice-0-1, end_of-Item-Choice-0-1, more_of-Item-Choice-0-1}
use Rattle.aa_glob.specs.declared.sign.Token.{Token}
use Rattle.aa_glob.specs.declared.sign.Token.TheVariants.{Comma, Close, Single}
use Rattle.aa_glob.specs.Reading.{spelled, spelled_item, spelled_choice, spelled_rest, spelled_row, TokensDecideItems}
use Rattle.aa_pattern.specs.Sameness.{SameItem, SameBranches, SameBranch}

behind : {X : Type 0} {a b : X} {x y : List X} → a ∷ x ≡ b ∷ y → x ≡ y
behind e = cc

in_single : {a b : Item} {x y : List Token} → Single a ∷ x ≡ Single b ∷ y → (a ≡ b) × (x ≡ y)
in_single e = (cc, cc)

-- no item begins with a comma or }
abbrev IsEnd : List Token → Type 0
IsEnd [] = Unit {0}
IsEnd (Comma ∷ _) = Unit {0}
IsEnd (Close ∷ _) = Unit {0}
IsEnd (_ ∷ _) = ⊥

choice_first : {n : _} (item choice : Item) (rows : Row_of-Item-Choice-0-1 n) (x y : List Token) → Single item ∷ x ≡ spelled_choice choice rows ++ y → (item ≡ choice) × (x ≡ y)
choice_first item choice end_of-Item-Choice-0-1 x y e = in_single e
choice_first item choice (more_of-Item-Choice-0-1 _ branch rest) x y e = absurd cc

single_first : (item other : Item) (x y : List Token) → Single item ∷ x ≡ spelled_item other ++ y → (item ≡ other) × (x ≡ y)
single_first item (Choice' shape rows) x y e = choice_first item (Choice' shape rows) rows x y e
single_first item other x y e = in_single e

choice_begins : {n : _} (choice : Item) (rows : Row_of-Item-Choice-0-1 n) (x : List Token) → IsEnd (spelled_choice choice rows ++ x) → ⊥
choice_begins choice end_of-Item-Choice-0-1 x e = e
choice_begins choice (more_of-Item-Choice-0-1 _ branch rest) x e = e

item_begins : (item : Item) (x : List Token) → IsEnd (spelled_item item ++ x) → ⊥
item_begins (Choice' shape rows) x e = choice_begins (Choice' shape rows) rows x e
item_begins item x e = e

rest_ends : {n : _} (rows : Row_of-Item-Choice-0-1 n) (x : List Token) → IsEnd (spelled_rest rows ++ x)
rest_ends end_of-Item-Choice-0-1 x = tt
rest_ends (more_of-Item-Choice-0-1 _ branch rest) x = tt

regrouped : (a b x c d y : List Token) → (a ++ b) ++ x ≡ (c ++ d) ++ y → a ++ (b ++ x) ≡ c ++ (d ++ y)
regrouped a b x c d y e = sym (append_assoc a b x) ∙ e ∙ append_assoc c d y

-- one behind the other
then : {A B : Type 0} {s t x y : List Token} → A × (s ≡ t) → (s ≡ t → B × (x ≡ y)) → (A × B) × (x ≡ y)
then p f = let q = f p.1 in ((p.0, q.0), q.1)

mutual
  item_once : (a b : Item) (x y : List Token) → spelled_item a ++ x ≡ spelled_item b ++ y → SameItem a b × (x ≡ y)
  item_once (Choice' s a) (Choice' t b) x y e = choice_once (Choice' s a) (Choice' t b) a b x y e
  item_once (Choice' s a) b x y e = let p = choice_first b (Choice' s a) a y x (sym e) in (sym p.0, sym p.1)
  item_once a b x y e = single_first a b x y e

  choice_once : {n m : _} (c d : Item) (a : Row_of-Item-Choice-0-1 n) (b : Row_of-Item-Choice-0-1 m) (x y : List Token) →
      spelled_choice c a ++ x ≡ spelled_choice d b ++ y → SameBranches a b × (x ≡ y)
  choice_once c d end_of-Item-Choice-0-1 end_of-Item-Choice-0-1 x y e = (tt, behind e)
  choice_once c d (more_of-Item-Choice-0-1 _ a as') (more_of-Item-Choice-0-1 _ b bs) x y e =
      then (branch_once a b _ _ (rest_ends as' x) (rest_ends bs y) (regrouped (spelled_row a) (spelled_rest as') x (spelled_row b) (spelled_rest bs) y (behind e))) (rest_once as' bs x y)
  choice_once c d _ _ x y e = absurd cc

  rest_once : {n m : _} (a : Row_of-Item-Choice-0-1 n) (b : Row_of-Item-Choice-0-1 m) (x y : List Token) →
      spelled_rest a ++ x ≡ spelled_rest b ++ y → SameBranches a b × (x ≡ y)
  rest_once end_of-Item-Choice-0-1 end_of-Item-Choice-0-1 x y e = (tt, behind e)
  rest_once (more_of-Item-Choice-0-1 _ a as') (more_of-Item-Choice-0-1 _ b bs) x y e =
      then (branch_once a b _ _ (rest_ends as' x) (rest_ends bs y) (regrouped (spelled_row a) (spelled_rest as') x (spelled_row b) (spelled_rest bs) y (behind e))) (rest_once as' bs x y)
  rest_once _ _ x y e = absurd cc

  branch_once : {n m : _} (a : Row_of-Item n) (b : Row_of-Item m) (x y : List Token) → IsEnd x → IsEnd y →
      spelled_row a ++ x ≡ spelled_row b ++ y → SameBranch a b × (x ≡ y)
  branch_once end_of-Item end_of-Item x y f g e = (tt, e)
  branch_once end_of-Item (more_of-Item b bs) x y f g e = absurd (item_begins b (spelled_row bs ++ y) (subst IsEnd (e ∙ append_assoc (spelled_item b) (spelled_row bs) y) f))
  branch_once (more_of-Item a as') end_of-Item x y f g e = absurd (item_begins a (spelled_row as' ++ x) (subst IsEnd (sym e ∙ append_assoc (spelled_item a) (spelled_row as') x) g))
  branch_once (more_of-Item a as') (more_of-Item b bs) x y f g e =
      then (item_once a b _ _ (regrouped (spelled_item a) (spelled_row as') x (spelled_item b) (spelled_row bs) y e)) (branch_once as' bs x y f g)

pub tokens_decide_items : TokensDecideItems
tokens_decide_items [] [] e = tt
tokens_decide_items [] (b ∷ bs) e = absurd (item_begins b (spelled bs) (subst IsEnd e tt))
tokens_decide_items (a ∷ as') [] e = absurd (item_begins a (spelled as') (subst IsEnd (sym e) tt))
tokens_decide_items (a ∷ as') (b ∷ bs) e = let p = item_once a b (spelled as') (spelled bs) e in (p.0, tokens_decide_items as' bs p.1)
