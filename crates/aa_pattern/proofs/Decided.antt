-- Deciding whether a text is matched.
use Rattle.std.proofs.Common.{arith}
use Rattle.std.proofs.Common.{◌≡◌, ◌≢◌, ℕ, List, [], ◌∷◌, ◌++◌, map, Bool, refl, sym, ap, subst, ◌∙◌, ◌⊎◌, inl, inr}
use Rattle.std.specs.Prelude.{◌==◌, ◌&&◌, ◌||◌, nat_lt, not, ◌↔◌, IsTrue}
use Rattle.std.specs.Bool.{Decides}
use Rattle.std.specs.List.{All, list_all, list_any}
use Rattle.std.proofs.Math.Bool.{or-false}
use Rattle.std.proofs.lemmas.Bool.Decides.{Decides-at, Decides-like, Decides-not, Decides-and, Decides-or, Decides-ltb, Decides-eqb, Decides-by_and}
use Rattle.std.proofs.lemmas.List.Elements.{All-cons, All-head, All-tail}
use Rattle.aa_pattern.specs.declared.item.Item.{Item, Byte, One, Run, RunOne, Deep, DeepOne, Class, Choice', Row_of-Item, end_of-Item, more_of-Item, Row_of-Item-Choice-0-1, end_of-Item-Choice-0-1, more_of-Item-Choice-0-1}
use Rattle.aa_pattern.specs.Globs.{Allows, SomeAllows, AllAllow, Matches, IsNonzeroByte, IsNameByte}
use Rattle.aa_pattern.specs.Matching.{cuts, is_nonzero_byte, is_name_byte, is_empty, is_one, begins_so, allows, some_allows, all_allow, is_match}

-- a text is cut so that both parts have something
abbrev IsCut : (List ℕ → Type 0) → (List ℕ → Type 0) → List ℕ → Type 0
IsCut P Q s = (a : List ℕ) × (b : List ℕ) × (s ≡ a ++ b) × P a × Q b

any_map : {X Y : Type 0} (f : X → Y) (p : Y → Bool) (xs : List X) → list_any p (map f xs) ≡ list_any (λ x. p (f x)) xs
any_map f p [] = refl
any_map f p (x ∷ xs) = ap (λ (b : Bool). p (f x) || b) (any_map f p xs)

first_cut : (P Q : List ℕ → Type 0) (b : ℕ) (bs : List ℕ) → (P [] × Q (b ∷ bs)) ⊎ IsCut (λ a. P (b ∷ a)) Q bs → IsCut P Q (b ∷ bs)
first_cut P Q b bs (inl h) = ([], b ∷ bs, refl, h.0, h.1)
first_cut P Q b bs (inr h) = (b ∷ h.0, h.1, ap (λ (x : List ℕ). b ∷ x) h.2, h.3, h.4)

cut_tail : (b c : ℕ) (bs cs : List ℕ) → b ∷ bs ≡ c ∷ cs → (b ≡ c) × (bs ≡ cs)
cut_tail b c bs cs e = (cc, cc)

cut_first : (P Q : List ℕ → Type 0) (b : ℕ) (bs x y : List ℕ) → b ∷ bs ≡ x ++ y → P x → Q y → (P [] × Q (b ∷ bs)) ⊎ IsCut (λ a. P (b ∷ a)) Q bs
cut_first P Q b bs [] y e p q = inl (p, subst Q (sym e) q)
cut_first P Q b bs (c ∷ x) y e p q = let t = cut_tail b c bs (x ++ y) e in inr (x, y, t.1, subst (λ (z : ℕ). P (z ∷ x)) (sym t.0) p, q)

no_cut : (P Q : List ℕ → Type 0) (x y : List ℕ) → [] ≡ x ++ y → P x → Q y → P [] × Q []
no_cut P Q [] y e p q = (p, subst Q (sym e) q)
no_cut P Q (c ∷ x) y e p q = absurd cc

-- to look at all cuts is to look for one
cuts_decide : (p q : List ℕ → Bool) (P Q : List ℕ → Type 0) → ((a : List ℕ) → Decides (p a) (P a)) → ((a : List ℕ) → Decides (q a) (Q a))
    → (s : List ℕ) → Decides (list_any (λ c. p c.0 && q c.1) (cuts s)) (IsCut P Q s)
cuts_decide p q P Q h k [] =
    Decides-at _ (p [] && q []) (or-false (p [] && q []))
    (Decides-like (p [] && q []) (λ x. ([], [], refl, x.0, x.1)) (λ c. no_cut P Q c.0 c.1 c.2 c.3 c.4) (Decides-and (p []) (q []) (h []) (k [])))
cuts_decide p q P Q h k (b ∷ bs) =
    Decides-at _ ((p [] && q (b ∷ bs)) || list_any (λ c. p (b ∷ c.0) && q c.1) (cuts bs))
    (ap (λ (x : Bool). (p [] && q (b ∷ bs)) || x) (any_map (λ c. (b ∷ c.0, c.1)) (λ c. p c.0 && q c.1) (cuts bs)))
    (Decides-like _ (first_cut P Q b bs) (λ c. cut_first P Q b bs c.0 c.1 c.2 c.3 c.4)
    (Decides-or (p [] && q (b ∷ bs)) _ (Decides-and (p []) (q (b ∷ bs)) (h []) (k (b ∷ bs)))
    (cuts_decide (λ a. p (b ∷ a)) q (λ a. P (b ∷ a)) Q (λ a. h (b ∷ a)) k bs)))

empty_decides : (s : List ℕ) → Decides (is_empty s) (s ≡ [])
empty_decides [] = (λ _. refl, λ _. refl)
empty_decides (b ∷ bs) = (λ e. absurd cc, λ e. absurd cc)

nonzero_decides : (b : ℕ) → Decides (is_nonzero_byte b) (IsNonzeroByte b)
nonzero_decides b = Decides-and (nat_lt 0 b) (nat_lt b 256) (Decides-ltb 0 b) (Decides-ltb b 256)

name_decides : (b : ℕ) → Decides (is_name_byte b) (IsNameByte b)
name_decides b = Decides-and (is_nonzero_byte b) (not (b == 47)) (nonzero_decides b) (Decides-not (b == 47) (Decides-eqb b 47))

all_decides : (p : ℕ → Bool) (P : ℕ → Type 0) → ((b : ℕ) → Decides (p b) (P b)) → (s : List ℕ) → Decides (list_all p s) (All P s)
all_decides p P h s = Decides-by_and p P (list_all p) h refl (λ _ _. refl) s

abbrev IsOne : (ℕ → Type 0) → List ℕ → Type 0
IsOne P s = (b : ℕ) × (s ≡ b ∷ []) × P b

one_at : (P : ℕ → Type 0) (b : ℕ) (bs : List ℕ) → P b × (bs ≡ []) → IsOne P (b ∷ bs)
one_at P b bs h = (b, ap (λ (x : List ℕ). b ∷ x) h.1, h.0)

at_one : (P : ℕ → Type 0) (b : ℕ) (bs : List ℕ) → IsOne P (b ∷ bs) → P b × (bs ≡ [])
at_one P b bs h = let t = cut_tail b h.0 bs [] h.1 in (subst P (sym t.0) h.2, t.1)

one_decides : (p : ℕ → Bool) (P : ℕ → Type 0) → ((b : ℕ) → Decides (p b) (P b)) → (s : List ℕ) → Decides (is_one p s) (IsOne P s)
one_decides p P h [] = (λ e. absurd cc, λ x. absurd (let e = x.1 in cc))
one_decides p P h (b ∷ bs) = Decides-like (p b && is_empty bs) (one_at P b bs) (at_one P b bs) (Decides-and (p b) (is_empty bs) (h b) (empty_decides bs))

abbrev BeginsSo : (ℕ → Type 0) → (ℕ → Type 0) → List ℕ → Type 0
BeginsSo P Q s = (b : ℕ) × (rest : List ℕ) × (s ≡ b ∷ rest) × P b × All Q rest

at_begin : (P Q : ℕ → Type 0) (b : ℕ) (bs : List ℕ) → BeginsSo P Q (b ∷ bs) → P b × All Q bs
at_begin P Q b bs h = let t = cut_tail b h.0 bs h.1 h.2 in (subst P (sym t.0) h.3, subst (All Q) (sym t.1) h.4)

begins_decides : (p q : ℕ → Bool) (P Q : ℕ → Type 0) → ((b : ℕ) → Decides (p b) (P b)) → ((b : ℕ) → Decides (q b) (Q b)) → (s : List ℕ) → Decides (begins_so p q s) (BeginsSo P Q s)
begins_decides p q P Q h k [] = (λ e. absurd cc, λ x. absurd (let e = x.2 in cc))
begins_decides p q P Q h k (b ∷ bs) =
    Decides-like (p b && list_all q bs) (λ x. (b, bs, refl, x.0, x.1)) (at_begin P Q b bs) (Decides-and (p b) (list_all q bs) (h b) (all_decides q Q k bs))

some_from : (P : ℕ → Type 0) (s : List ℕ) → BeginsSo P P s → All P s × (s ≢ [])
some_from P s h = (subst (All P) (sym h.2) (All-cons P h.0 h.1 h.3 h.4), λ e. absurd (let f = sym e ∙ h.2 in cc))

from_some : (P : ℕ → Type 0) (s : List ℕ) → All P s × (s ≢ []) → BeginsSo P P s
from_some P [] h = absurd (h.1 refl)
from_some P (b ∷ bs) h = (b, bs, refl, All-head P b bs h.0, All-tail P b bs h.0)

byte_at : (c : ℕ) (s : List ℕ) → IsOne (λ b. (b ≡ c) × IsNonzeroByte c) s → (s ≡ c ∷ []) × IsNonzeroByte c
byte_at c s h = (h.1 ∙ ap (λ (b : ℕ). b ∷ []) h.2.0, h.2.1)

mutual
  item_decides : (i : Item) (s : List ℕ) → Decides (allows i s) (Allows i s)
  item_decides (Byte c) s = grind (arith, Decides-like, Decides-and, Decides-eqb, nonzero_decides, one_decides, byte_at)
  item_decides One s = one_decides is_name_byte IsNameByte name_decides s
  item_decides Run s = all_decides is_name_byte IsNameByte name_decides s
  item_decides RunOne s = Decides-like _ (some_from IsNameByte s) (from_some IsNameByte s) (begins_decides is_name_byte is_name_byte IsNameByte IsNameByte name_decides name_decides s)
  item_decides Deep s = all_decides is_nonzero_byte IsNonzeroByte nonzero_decides s
  item_decides DeepOne s = begins_decides is_name_byte is_nonzero_byte IsNameByte IsNonzeroByte name_decides nonzero_decides s
  item_decides (Class set) s = grind (arith, Decides-and, nonzero_decides, one_decides)
  item_decides (Choice' _ branches) s = some_decides branches s

  some_decides : {n : _} (branches : Row_of-Item-Choice-0-1 n) (s : List ℕ) → Decides (some_allows branches s) (SomeAllows branches s)
  some_decides end_of-Item-Choice-0-1 s = (λ e. absurd cc, λ h. absurd h)
  some_decides (more_of-Item-Choice-0-1 _ branch rest) s = Decides-or (all_allow branch s) (some_allows rest s) (branch_decides branch s) (some_decides rest s)

  branch_decides : {n : _} (branch : Row_of-Item n) (s : List ℕ) → Decides (all_allow branch s) (AllAllow branch s)
  branch_decides end_of-Item s = empty_decides s
  branch_decides (more_of-Item item rest) s = cuts_decide (allows item) (all_allow rest) (Allows item) (AllAllow rest) (λ a. item_decides item a) (λ a. branch_decides rest a) s

match_decides : (items : List Item) (s : List ℕ) → Decides (is_match items s) (Matches items s)
unfolding is_match
match_decides [] s = empty_decides s
match_decides (item ∷ items) s = cuts_decide (allows item) (is_match items) (Allows item) (Matches items) (λ a. item_decides item a) (λ a. match_decides items a) s

-- to decide is to cut
pub decided : (items : List Item) (s : List ℕ) → IsTrue (is_match items s) ↔ Matches items s
decided items s = let d = match_decides items s in (d.0, d.1)
