-- Items have one code exactly where they are the same.
use Rattle.std.proofs.Common.{◌≡◌, ℕ, zero, suc, ◌+◌, ◌<◌, ◌≤◌, List, [], ◌∷◌, ◌++◌, Bool, true, false, cond}
use Rattle.std.proofs.Common.{refl, sym, ap, ◌∙◌, subst, arith, append_assoc, ⊎_elim, inl, inr, true≢false}
use Rattle.std.specs.Prelude.{◌⊎◌, slice_index_or}
use Rattle.std.proofs.lemmas.Bool.{cases_lt}
use Rattle.aa_pattern.specs.declared.item.Item.{Item, Byte, One, Run, RunOne, Deep, DeepOne, Class, Choice', Row_of-Item, end_of-Item, more_of-Item}
use Rattle.aa_pattern.specs.declared.item.Item.{Row_of-Item-Choice-0-1, end_of-Item-Choice-0-1, more_of-Item-Choice-0-1}
use Rattle.aa_changed_rules.specs.Codes.{member, members, class_code, item_code, rows_code, row_code, items_code}
use Rattle.aa_changed_rules.specs.Sameness.{SameBytes, SameItem, SameBranches, SameBranch, SameItems}
use Rattle.aa_changed_rules.proofs.Elements.{first_of, rest_of, HasNoEnd, no_end_append, split_at_end}

pub same_bool : (a b : Bool) → (a ≡ true → b ≡ true) → (b ≡ true → a ≡ true) → a ≡ b
same_bool true b f g = sym (f refl)
same_bool false true f g = g refl
same_bool false false f g = refl

-- ---- classes

members_end : (set : List Bool) (n : ℕ) → HasNoEnd (members set n)
unfolding members
members_end set zero = tt
members_end set (suc n) = no_end_append (members set n) (member set n) (members_end set n) (by (slice_index_or set n false))
  where
    by : (b : Bool) → HasNoEnd (cond b ((n + 9) ∷ []) [])
    by true = (omega arith, tt)
    by false = tt

-- the number is among these
abbrev IsIn : ℕ → List ℕ → Type 0
IsIn n [] = ⊥
IsIn n (m ∷ ms) = (m ≡ n) ⊎ IsIn n ms

in_left : (n : ℕ) (xs ys : List ℕ) → IsIn n xs → IsIn n (xs ++ ys)
in_left n [] ys h = absurd h
in_left n (x ∷ xs) ys h = ⊎_elim (λ (e : x ≡ n). inl e) (λ (r : IsIn n xs). inr (in_left n xs ys r)) h

in_right : (n : ℕ) (xs ys : List ℕ) → IsIn n ys → IsIn n (xs ++ ys)
in_right n [] ys h = h
in_right n (x ∷ xs) ys h = inr (in_right n xs ys h)

in_either : (n : ℕ) (xs ys : List ℕ) → IsIn n (xs ++ ys) → IsIn n xs ⊎ IsIn n ys
in_either n [] ys h = inr h
in_either n (x ∷ xs) ys h =
    ⊎_elim (λ (e : x ≡ n). inl (inl e))
    (λ (r : IsIn n (xs ++ ys)). ⊎_elim (λ (l : IsIn n xs). inl (inr l)) (λ (q : IsIn n ys). inr q) (in_either n xs ys r)) h

has_in : (set : List Bool) (n k : ℕ) → k < n → slice_index_or set k false ≡ true → IsIn (k + 9) (members set n)
unfolding members
has_in set zero k lt h = absurd (omega (arith, lt))
has_in set (suc n) k lt h =
    ⊎_elim (λ (l : k < n). in_left (k + 9) (members set n) (member set n) (has_in set n k l h))
    (λ (g : n ≤ k).
    let is : k ≡ n = omega (arith, lt, g) in
    in_right (k + 9) (members set n) (member set n) (by is (slice_index_or set n false) (ap (λ (i : ℕ). slice_index_or set i false) (sym is) ∙ h)))
    (cases_lt k n)
  where
    by : k ≡ n → (b : Bool) → b ≡ true → IsIn (k + 9) (cond b ((n + 9) ∷ []) [])
    by is true e = inl (omega (arith, is))
    by is false e = absurd (true≢false (sym e))

in_has : (set : List Bool) (n k : ℕ) → IsIn (k + 9) (members set n) → slice_index_or set k false ≡ true
unfolding members
in_has set zero k h = absurd h
in_has set (suc n) k h =
    ⊎_elim (λ (l : IsIn (k + 9) (members set n)). in_has set n k l)
    (λ (r : IsIn (k + 9) (member set n)). by (slice_index_or set n false) refl r)
    (in_either (k + 9) (members set n) (member set n) h)
  where
    by : (b : Bool) → slice_index_or set n false ≡ b → IsIn (k + 9) (cond b ((n + 9) ∷ []) []) → slice_index_or set k false ≡ true
    by true e r =
        ⊎_elim (λ (same : n + 9 ≡ k + 9). let is : k ≡ n = omega (arith, same) in ap (λ (i : ℕ). slice_index_or set i false) is ∙ e)
        (λ (z : ⊥). absurd z) r
    by false e r = absurd r

members_told : (a b : List Bool) → members a 256 ≡ members b 256 → SameBytes a b
members_told a b e k lt =
    same_bool (slice_index_or a k false) (slice_index_or b k false)
    (λ h. in_has b 256 k (subst (IsIn (k + 9)) e (has_in a 256 k lt h)))
    (λ h. in_has a 256 k (subst (IsIn (k + 9)) (sym e) (has_in b 256 k lt h)))

members_same : (a b : List Bool) (n : ℕ) → ((k : ℕ) → k < n → slice_index_or a k false ≡ slice_index_or b k false) → members a n ≡ members b n
unfolding members
members_same a b zero h = refl
members_same a b (suc n) h =
    ap (λ (ns : List ℕ). ns ++ member a n) (members_same a b n (λ k lt. h k (omega (arith, lt))))
    ∙ ap (λ (x : Bool). members b n ++ cond x ((n + 9) ∷ []) []) (h n (omega arith))

class_is : (set : List Bool) → class_code set ≡ 6 ∷ (members set 256 ++ 0 ∷ [])
unfolding class_code
class_is set = refl

class_same : (a b : List Bool) → SameBytes a b → class_code a ≡ class_code b
class_same a b h = class_is a ∙ ap (λ (ns : List ℕ). 6 ∷ (ns ++ 0 ∷ [])) (members_same a b 256 h) ∙ sym (class_is b)

-- ---- what begins an item

abbrev tag : Item → ℕ
tag (Byte b) = b + 9
tag One = 1
tag Run = 2
tag RunOne = 3
tag Deep = 4
tag DeepOne = 5
tag (Class set) = 6
tag (Choice' _ branches) = 7

abbrev body : Item → List ℕ
body (Class set) = members set 256 ++ 0 ∷ []
body (Choice' _ branches) = rows_code branches ++ 0 ∷ []
body _ = []

code_is : (x : Item) → item_code x ≡ tag x ∷ body x
code_is (Byte b) = refl
code_is One = refl
code_is Run = refl
code_is RunOne = refl
code_is Deep = refl
code_is DeepOne = refl
code_is (Class set) = class_is set
code_is (Choice' _ branches) = refl

tag_pos : (x : Item) → 0 < tag x
tag_pos (Byte b) = omega arith
tag_pos _ = omega arith

tags : (x y : Item) (s t : List ℕ) → item_code x ++ s ≡ item_code y ++ t → tag x ≡ tag y
tags x y s t e = ap first_of (ap (λ (ns : List ℕ). ns ++ s) (sym (code_is x)) ∙ e ∙ ap (λ (ns : List ℕ). ns ++ t) (code_is y))

no_item : (y : Item) (s u : List ℕ) → 0 ∷ s ≡ item_code y ++ u → ⊥
no_item y s u e = omega (arith, tag_pos y, ap first_of (e ∙ ap (λ (ns : List ℕ). ns ++ u) (code_is y)))

none_item : (y : Item) (u : List ℕ) → [] ≡ item_code y ++ u → ⊥
none_item y u e = no_item y [] (u ++ 0 ∷ []) (ap (λ (ns : List ℕ). ns ++ 0 ∷ []) e ∙ append_assoc (item_code y) u (0 ∷ []))

class_told : (a b : List Bool) (s t : List ℕ) → class_code a ++ s ≡ class_code b ++ t → SameBytes a b × (s ≡ t)
class_told a b s t e =
    let f = ap (λ (ns : List ℕ). ns ++ s) (sym (class_is a)) ∙ e ∙ ap (λ (ns : List ℕ). ns ++ t) (class_is b) in
    let r = split_at_end (members a 256) (members b 256) s t (members_end a 256) (members_end b 256)
    (sym (append_assoc (members a 256) (0 ∷ []) s) ∙ ap rest_of f ∙ append_assoc (members b 256) (0 ∷ []) t) in
    (members_told a b r.0, r.1)

opened : (u v s : List ℕ) → ((u ++ 0 ∷ []) ++ v) ++ 0 ∷ s ≡ u ++ 0 ∷ (v ++ 0 ∷ s)
opened u v s = append_assoc (u ++ 0 ∷ []) v (0 ∷ s) ∙ append_assoc u (0 ∷ []) (v ++ 0 ∷ s)

-- ---- an item is told by its code, whatever follows

mutual
  item_told : (x y : Item) (s t : List ℕ) → item_code x ++ s ≡ item_code y ++ t → SameItem x y × (s ≡ t)
  item_told (Byte a) (Byte b) s t e = let same : a ≡ b = omega (arith, ap first_of e) in (ap Byte same, ap rest_of e)
  item_told One One s t e = (refl, ap rest_of e)
  item_told Run Run s t e = (refl, ap rest_of e)
  item_told RunOne RunOne s t e = (refl, ap rest_of e)
  item_told Deep Deep s t e = (refl, ap rest_of e)
  item_told DeepOne DeepOne s t e = (refl, ap rest_of e)
  item_told (Class a) (Class b) s t e = class_told a b s t e
  item_told (Choice' _ a) (Choice' _ b) s t e =
      rows_told a b s t (sym (append_assoc (rows_code a) (0 ∷ []) s) ∙ ap rest_of e ∙ append_assoc (rows_code b) (0 ∷ []) t)
  item_told x y s t e = absurd (omega (arith, tags x y s t e))

  rows_told : {n m : _} (a : Row_of-Item-Choice-0-1 n) (b : Row_of-Item-Choice-0-1 m) (s t : List ℕ) → rows_code a ++ 0 ∷ s ≡ rows_code b ++ 0 ∷ t
      → SameBranches a b × (s ≡ t)
  rows_told end_of-Item-Choice-0-1 end_of-Item-Choice-0-1 s t e = (tt, ap rest_of e)
  rows_told (more_of-Item-Choice-0-1 _ a as') (more_of-Item-Choice-0-1 _ b bs) s t e =
      let r = row_told a b (rows_code as' ++ 0 ∷ s) (rows_code bs ++ 0 ∷ t)
      (sym (opened (row_code a) (rows_code as') s) ∙ ap rest_of e ∙ opened (row_code b) (rows_code bs) t) in
      let q = rows_told as' bs s t r.1 in ((r.0, q.0), q.1)
  rows_told end_of-Item-Choice-0-1 (more_of-Item-Choice-0-1 _ b bs) s t e = absurd (omega (arith, ap first_of e))
  rows_told (more_of-Item-Choice-0-1 _ a as') end_of-Item-Choice-0-1 s t e = absurd (omega (arith, ap first_of e))

  row_told : {n m : _} (a : Row_of-Item n) (b : Row_of-Item m) (s t : List ℕ) → row_code a ++ 0 ∷ s ≡ row_code b ++ 0 ∷ t
      → SameBranch a b × (s ≡ t)
  row_told end_of-Item end_of-Item s t e = (tt, ap rest_of e)
  row_told (more_of-Item x xs) (more_of-Item y ys) s t e =
      let r = item_told x y (row_code xs ++ 0 ∷ s) (row_code ys ++ 0 ∷ t)
      (sym (append_assoc (item_code x) (row_code xs) (0 ∷ s)) ∙ e ∙ append_assoc (item_code y) (row_code ys) (0 ∷ t)) in
      let q = row_told xs ys s t r.1 in ((r.0, q.0), q.1)
  row_told end_of-Item (more_of-Item y ys) s t e =
      absurd (no_item y s (row_code ys ++ 0 ∷ t) (e ∙ append_assoc (item_code y) (row_code ys) (0 ∷ t)))
  row_told (more_of-Item x xs) end_of-Item s t e =
      absurd (no_item x t (row_code xs ++ 0 ∷ s) (sym e ∙ append_assoc (item_code x) (row_code xs) (0 ∷ s)))

pub items_told : (xs ys : List Item) → items_code xs ≡ items_code ys → SameItems xs ys
items_told [] [] e = tt
items_told (x ∷ xs) (y ∷ ys) e = let r = item_told x y (items_code xs) (items_code ys) e in (r.0, items_told xs ys r.1)
items_told [] (y ∷ ys) e = absurd (none_item y (items_code ys) e)
items_told (x ∷ xs) [] e = absurd (none_item x (items_code xs) (sym e))

-- ---- the same items have one code

mutual
  item_same : (x y : Item) → SameItem x y → item_code x ≡ item_code y
  item_same (Class a) (Class b) h = class_same a b h
  item_same (Choice' _ a) (Choice' _ b) h = ap (λ (ns : List ℕ). 7 ∷ (ns ++ 0 ∷ [])) (rows_same a b h)
  item_same x y h = ap item_code h

  rows_same : {n m : _} (a : Row_of-Item-Choice-0-1 n) (b : Row_of-Item-Choice-0-1 m) → SameBranches a b → rows_code a ≡ rows_code b
  rows_same end_of-Item-Choice-0-1 end_of-Item-Choice-0-1 h = refl
  rows_same (more_of-Item-Choice-0-1 _ a as') (more_of-Item-Choice-0-1 _ b bs) h =
      ap (λ (ns : List ℕ). (8 ∷ (ns ++ 0 ∷ [])) ++ rows_code as') (row_same a b h.0)
      ∙ ap (λ (ns : List ℕ). (8 ∷ (row_code b ++ 0 ∷ [])) ++ ns) (rows_same as' bs h.1)
  rows_same _ _ h = absurd h

  row_same : {n m : _} (a : Row_of-Item n) (b : Row_of-Item m) → SameBranch a b → row_code a ≡ row_code b
  row_same end_of-Item end_of-Item h = refl
  row_same (more_of-Item x xs) (more_of-Item y ys) h =
      ap (λ (ns : List ℕ). ns ++ row_code xs) (item_same x y h.0) ∙ ap (λ (ns : List ℕ). item_code y ++ ns) (row_same xs ys h.1)
  row_same _ _ h = absurd h

pub items_same : (xs ys : List Item) → SameItems xs ys → items_code xs ≡ items_code ys
items_same [] [] h = refl
items_same (x ∷ xs) (y ∷ ys) h =
    ap (λ (ns : List ℕ). ns ++ items_code xs) (item_same x y h.0) ∙ ap (λ (ns : List ℕ). item_code y ++ ns) (items_same xs ys h.1)
items_same [] (y ∷ ys) h = absurd h
items_same (x ∷ xs) [] h = absurd h
