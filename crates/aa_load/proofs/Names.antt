-- Numbers of profiles, in a map and in a list.
use Rattle.std.proofs.Common.{◌≡◌, ℕ, ◌+◌, zero, suc, ◌<◌, Bool, true, false, ◌||◌, cond, List, [], ◌∷◌, ◌++◌, map, length, take}
use Rattle.std.proofs.Common.{get_or, Option, Some, None, is_some, option_map, Vec, Global, refl, sym, ap, ◌∙◌, arith}
use Rattle.std.specs.Map.{lookup, KeepsOthers}
use Rattle.std.specs.List.{IsDistinct, AllByRecursion}
use Rattle.std.specs.Option.{option_or}
use Rattle.std.specs.Ordering.{is_eq, eq_by_cmp, nat_cmp}
use Rattle.std.specs.Cmp.Lexicographic.{nat_list_eq_equiv, slice_cmp, texts_ties}
use Rattle.std.specs.Str.{bytes_eq}
use Rattle.std.proofs.lemmas.Map.Keys.{IsDistinct-head, IsDistinct-tail, IsDistinct-cons}
use Rattle.std.proofs.lemmas.Slice.Eq.{bytes_eq-Decides}
use Rattle.aa_model.specs.declared.policy.Profile.{Profile}
use Rattle.aa_model.specs.Lawful.{names_of}
use Rattle.aa_load.specs.Joined.{moved}
use Rattle.aa_load.specs.Faults.{number_of}
use Rattle.aa_load.specs.Numbers.{Noted, noted, AreNumbers, NotesNumber}

same_bytes : (a b : List ℕ) → bytes_eq a b ≡ true → a ≡ b
same_bytes a b e = (bytes_eq-Decides a b).0 e

abbrev pub equals : List ℕ → Vec ℕ Global → Bool
equals q k = is_eq (slice_cmp nat_cmp q k.items)

flipped : (a b : List ℕ) (v : Bool) → bytes_eq a b ≡ v → bytes_eq b a ≡ v
flipped a b v e = nat_list_eq_equiv.symm b a ∙ e

-- ---- the map

equal : (q : List ℕ) (k : Vec ℕ Global) → equals q k ≡ true → q ≡ k.items
equal q k e = same_bytes q k.items (texts_ties q k.items ∙ e)

-- no key equals two names
apart : (name q : List ℕ) → bytes_eq name q ≡ false → (k : Vec ℕ Global) → equals name k ≡ true → equals q k ≡ false
apart name q f k e = at (equals q k) refl
  where
    at : (b : Bool) → equals q k ≡ b → b ≡ false
    at false same = refl
    at true same =
        let one : bytes_eq name q ≡ equals name k = texts_ties name q ∙ ap (λ (t : List ℕ). is_eq (slice_cmp nat_cmp name t)) (equal q k same) in
        sym (one ∙ e) ∙ f

-- what is noted once what is noted for a name is written or taken away
pub written : {X : Type 0} (old new : List (Vec ℕ Global × X)) (name : List ℕ) (w : Option X) → lookup (equals name) new ≡ w
    → KeepsOthers (eq_by_cmp (λ (x y : Vec ℕ Global). slice_cmp nat_cmp x.items y.items)) (equals name) old new
    → (other : List ℕ) → lookup (equals other) new ≡ cond (bytes_eq name other) w (lookup (equals other) old)
unfolding KeepsOthers
written {X} old new name w here others = λ q. by q (bytes_eq name q) refl
  where
    -- by the order of names
    is_test : (q : List ℕ) (x y : Vec ℕ Global) → equals q x ≡ true → equals q y ≡ eq_by_cmp (λ (a b : Vec ℕ Global). slice_cmp nat_cmp a.items b.items) x y
    is_test q x y e = ap (λ (t : List ℕ). is_eq (slice_cmp nat_cmp t y.items)) (equal q x e)

    by : (q : List ℕ) (b : Bool) → bytes_eq name q ≡ b → lookup (equals q) new ≡ cond b w (lookup (equals q) old)
    by q true e = ap (λ (t : List ℕ). lookup (equals t) new) (sym (same_bytes name q e)) ∙ here
    by q false e = others (equals q) (is_test q) (apart name q e)

-- ---- the list

none_less : (o : Option ℕ) → option_map suc o ≡ None → o ≡ None
none_less None e = refl
none_less (Some n) e = absurd cc

some_less : (o : Option ℕ) → is_some (option_map suc o) ≡ is_some o
some_less None = refl
some_less (Some n) = refl

-- no profile of that name, so not the first, nor one of the others
pub not_first : (b : Bool) (o : Option ℕ) → cond b (Some 0) (option_map suc o) ≡ None → b ≡ false
not_first true o e = absurd cc
not_first false o e = refl

pub not_later : (b : Bool) (o : Option ℕ) → cond b (Some 0) (option_map suc o) ≡ None → o ≡ None
not_later true o e = absurd cc
not_later false o e = none_less o e

-- a profile of a new name, behind others
number_pushed : (q : List ℕ) (p : Profile) (ps : List Profile) → number_of p.name ps ≡ None
    → number_of q (ps ++ p ∷ []) ≡ cond (bytes_eq p.name q) (Some (length ps)) (number_of q ps)
number_pushed q p [] h = ap (λ (b : Bool). cond b (Some 0) None) (nat_list_eq_equiv.symm q p.name)
number_pushed q p (w ∷ ws) h =
    by (bytes_eq q w.name) refl (bytes_eq p.name q) refl (not_first (bytes_eq p.name w.name) _ h) (number_pushed q p ws (not_later (bytes_eq p.name w.name) _ h))
  where
    by : (b : Bool) → bytes_eq q w.name ≡ b → (c : Bool) → bytes_eq p.name q ≡ c → bytes_eq p.name w.name ≡ false
        → number_of q (ws ++ p ∷ []) ≡ cond (bytes_eq p.name q) (Some (length ws)) (number_of q ws)
        → cond b (Some 0) (option_map suc (number_of q (ws ++ p ∷ []))) ≡ cond c (Some (suc (length ws))) (cond b (Some 0) (option_map suc (number_of q ws)))
    by true bi true ci f rest = absurd (cc (sym (ap (λ (x : List ℕ). bytes_eq x w.name) (same_bytes p.name q ci) ∙ bi) ∙ f))
    by true bi false ci f rest = refl
    by false bi c ci f rest = ap (option_map suc) (rest ∙ ap (λ (d : Bool). cond d (Some (length ws)) (number_of q ws)) ci) ∙ split c
      where
        split : (c : Bool) → option_map suc (cond c (Some (length ws)) (number_of q ws)) ≡ cond c (Some (suc (length ws))) (option_map suc (number_of q ws))
        split true = refl
        split false = refl

-- the numbers of profiles and of one of a new name behind them
pub numbers_pushed : (old new : Noted) (ps : List Profile) (p : Profile) (n : ℕ) → AreNumbers old ps → number_of p.name ps ≡ None → n ≡ length ps
    → NotesNumber p.name n old new → AreNumbers new (ps ++ p ∷ [])
numbers_pushed old new ps p n are none is notes = λ q.
    notes q ∙ ap (λ (o : Option ℕ). cond (bytes_eq p.name q) (Some n) o) (are q) ∙ ap (λ (k : ℕ). cond (bytes_eq p.name q) (Some k) (number_of q ps)) is
    ∙ sym (number_pushed q p ps none)

-- whether a name is one of profiles and of one behind them
pub known_pushed : (q : List ℕ) (ps : List Profile) (p : Profile) → is_some (number_of q (ps ++ p ∷ [])) ≡ (is_some (number_of q ps) || bytes_eq q p.name)
known_pushed q [] p = by (bytes_eq q p.name)
  where
    by : (b : Bool) → is_some {T = ℕ} (cond b (Some 0) None) ≡ (false || b)
    by true = refl
    by false = refl
known_pushed q (w ∷ ws) p = by (bytes_eq q w.name) (some_less (number_of q (ws ++ p ∷ [])) ∙ known_pushed q ws p ∙ ap (λ (b : Bool). b || bytes_eq q p.name) (sym (some_less (number_of q ws))))
  where
    by : (b : Bool) → is_some (option_map suc (number_of q (ws ++ p ∷ []))) ≡ (is_some (option_map suc (number_of q ws)) || bytes_eq q p.name)
        → is_some (cond b (Some 0) (option_map suc (number_of q (ws ++ p ∷ [])))) ≡ (is_some (cond b (Some 0) (option_map suc (number_of q ws))) || bytes_eq q p.name)
    by true rest = refl
    by false rest = rest

-- a name that none behind has is looked up among those before
pub number_before : (q : List ℕ) (xs ys : List Profile) → number_of q ys ≡ None → number_of q (xs ++ ys) ≡ number_of q xs
number_before q [] ys e = e
number_before q (x ∷ xs) ys e = ap (λ (o : Option ℕ). cond (bytes_eq q x.name) (Some 0) (option_map suc o)) (number_before q xs ys e)

-- a name that none has is none of the first few
pub none_of_front : (q : List ℕ) (ps : List Profile) (i : ℕ) → number_of q ps ≡ None → number_of q (take i ps) ≡ None
none_of_front q [] zero e = refl
none_of_front q [] (suc i) e = refl
none_of_front q (p ∷ ps) zero e = refl
none_of_front q (p ∷ ps) (suc i) e =
    ap (λ (b : Bool). cond b (Some 0) (option_map suc (number_of q (take i ps)))) (not_first (bytes_eq q p.name) (number_of q ps) e)
    ∙ ap (option_map suc) (none_of_front q ps i (not_later (bytes_eq q p.name) (number_of q ps) e))

-- profiles that move keep their names
pub number_moved : (q : List ℕ) (n : ℕ) (xs ys : List Profile) → number_of q (xs ++ map (moved n) ys) ≡ number_of q (xs ++ ys)
number_moved q n [] [] = refl
number_moved q n [] (y ∷ ys) = ap (λ (o : Option ℕ). cond (bytes_eq q y.name) (Some 0) (option_map suc o)) (number_moved q n [] ys)
number_moved q n (x ∷ xs) ys = ap (λ (o : Option ℕ). cond (bytes_eq q x.name) (Some 0) (option_map suc o)) (number_moved q n xs ys)

-- a name is that of one before, or else of one behind
pub number_joined : (q : List ℕ) (xs ys : List Profile) → number_of q (xs ++ ys) ≡ option_or (number_of q xs) (option_map (λ n. n + length xs) (number_of q ys))
number_joined q [] ys = by (number_of q ys)
  where
    by : (o : Option ℕ) → o ≡ option_map (λ n. n + 0) o
    by None = refl
    by (Some n) = ap (λ (k : ℕ). Some k) (omega arith)
number_joined q (x ∷ xs) ys = by (bytes_eq q x.name) (number_of q xs) (number_of q ys) (number_joined q xs ys)
  where
    by : (b : Bool) (o p : Option ℕ) → number_of q (xs ++ ys) ≡ option_or o (option_map (λ n. n + length xs) p)
        → cond b (Some 0) (option_map suc (number_of q (xs ++ ys))) ≡ option_or (cond b (Some 0) (option_map suc o)) (option_map (λ n. n + suc (length xs)) p)
    by true o p rest = refl
    by false (Some k) p rest = ap (option_map suc) rest
    by false None None rest = ap (option_map suc) rest
    by false None (Some m) rest = ap (option_map suc) rest ∙ ap (λ (k : ℕ). Some k) (omega arith)

pub names_moved : (n : ℕ) (ps : List Profile) → names_of (map (moved n) ps) ≡ names_of ps
names_moved n [] = refl
names_moved n (p ∷ ps) = ap (λ (l : List (List ℕ)). p.name ∷ l) (names_moved n ps)

-- ---- distinct names

-- a name that differs from all differs from each
apart_at : (q : List ℕ) (ps : List Profile) (i : ℕ) (d : Profile) → AllByRecursion (λ y. bytes_eq q y ≡ false) (names_of ps) → i < length ps
    → bytes_eq q (get_or ps i d).name ≡ false
apart_at q [] i d h lt = absurd (omega arith)
apart_at q (p ∷ ps) zero d h lt = h.0
apart_at q (p ∷ ps) (suc i) d h lt = apart_at q ps i d h.1 (omega arith)

-- the name of each is none of those before it
pub distinct_at : (ps : List Profile) (i : ℕ) (d : Profile) → IsDistinct bytes_eq (names_of ps) → i < length ps → number_of (get_or ps i d).name (take i ps) ≡ None
distinct_at [] i d h lt = absurd (omega arith)
distinct_at (p ∷ ps) zero d h lt = refl
distinct_at (p ∷ ps) (suc i) d h lt =
    let q = (get_or ps i d).name in
    let other = flipped p.name q false (apart_at p.name ps i d (IsDistinct-head bytes_eq p.name (names_of ps) h) (omega arith)) in
    ap (λ (b : Bool). cond b (Some 0) (option_map suc (number_of q (take i ps)))) other
    ∙ ap (option_map suc) (distinct_at ps i d (IsDistinct-tail bytes_eq p.name (names_of ps) h) (omega arith))

all_apart : (q : List ℕ) (xs ys : List Profile) → AllByRecursion (λ y. bytes_eq q y ≡ false) (names_of xs)
    → ((i : ℕ) (d : Profile) → i < length ys → bytes_eq q (get_or ys i d).name ≡ false) → AllByRecursion (λ y. bytes_eq q y ≡ false) (names_of (xs ++ ys))
all_apart q [] [] h k = tt
all_apart q [] (y ∷ ys) h k = (k 0 y (omega arith), all_apart q [] ys tt (λ i d lt. k (suc i) d (omega arith)))
all_apart q (x ∷ xs) ys h k = (h.0, all_apart q xs ys h.1 k)

-- names of profiles and of others that have none of those
pub distinct_joined : (xs ys : List Profile) → IsDistinct bytes_eq (names_of xs) → IsDistinct bytes_eq (names_of ys)
    → ((i : ℕ) (d : Profile) → i < length ys → number_of (get_or ys i d).name xs ≡ None) → IsDistinct bytes_eq (names_of (xs ++ ys))
distinct_joined [] ys a b new = b
distinct_joined (x ∷ xs) ys a b new =
    IsDistinct-cons bytes_eq x.name (names_of (xs ++ ys))
    (all_apart x.name xs ys (IsDistinct-head bytes_eq x.name (names_of xs) a)
    (λ i d lt. flipped (get_or ys i d).name x.name false (not_first (bytes_eq (get_or ys i d).name x.name) (number_of (get_or ys i d).name xs) (new i d lt))))
    (distinct_joined xs ys (IsDistinct-tail bytes_eq x.name (names_of xs) a) b
    (λ i d lt. not_later (bytes_eq (get_or ys i d).name x.name) (number_of (get_or ys i d).name xs) (new i d lt)))
