-- What is known, in a set and in a list.
use Rattle.std.proofs.Common.{◌≡◌, ℕ, zero, suc, ◌+◌, ◌<◌, List, [], ◌∷◌, ◌++◌, length, take, get_or, Bool, true, false, cond}
use Rattle.std.proofs.Common.{refl, sym, ap, subst, ◌∙◌, append_assoc, arith, Bor, Vec, Global}
use Rattle.std.specs.Prelude.{not, ◌||◌, filter}
use Rattle.std.specs.Str.{bytes_eq}
use Rattle.std.specs.List.{list_any, range_with_len}
use Rattle.std.specs.Cmp.Lexicographic.{nat_list_eq_equiv, slice_cmp, texts_ties}
use Rattle.std.specs.Ordering.{is_eq, nat_cmp}
use Rattle.std.proofs.lemmas.List.{length-map, map_more, take_more}
use Rattle.std.proofs.lemmas.List.Elements.{filter-append}
use Rattle.std.proofs.lemmas.List.Folds.{list_any-append}
use Rattle.aa_changed_rules.specs.Forms.{lists}
use Rattle.aa_changed_rules.specs.Changed.{is_new, AreKnown, AddsNew}

last_any : (o : Bool) (b : Bool) → (o || (b || false)) ≡ cond b true o
last_any true true = refl
last_any true false = refl
last_any false true = refl
last_any false false = refl

any_push : (q form : List ℕ) (xs : List (List ℕ)) → list_any (bytes_eq q) (xs ++ form ∷ []) ≡ cond (bytes_eq form q) true (list_any (bytes_eq q) xs)
any_push q form xs =
    list_any-append (bytes_eq q) xs (form ∷ []) ∙ last_any (list_any (bytes_eq q) xs) (bytes_eq q form)
    ∙ ap (λ (b : Bool). cond b true (list_any (bytes_eq q) xs)) (nat_list_eq_equiv.symm q form)

-- a form compares equal to those that it is
same_any : (q : List ℕ) (ks : List (Bor (List ℕ))) → list_any (λ k. is_eq (slice_cmp nat_cmp q k.now)) ks ≡ list_any (λ k. bytes_eq q k.now) ks
same_any q [] = refl
same_any q (k ∷ ks) =
    ap (λ (b : Bool). b || list_any (λ j. is_eq (slice_cmp nat_cmp q j.now)) ks) (sym (texts_ties q k.now))
    ∙ ap (λ (b : Bool). bytes_eq q k.now || b) (same_any q ks)

-- how the set changes where a form is put into it
abbrev pub Puts : List (Bor (List ℕ)) → List (Bor (List ℕ)) → Bor (List ℕ) → Type 0
Puts old new key =
    (q : Bor (List ℕ)) → list_any (λ k. is_eq (slice_cmp nat_cmp q.now k.now)) new ≡ cond (is_eq (slice_cmp nat_cmp key.now q.now)) true (list_any (λ k. is_eq (slice_cmp nat_cmp q.now k.now)) old)

pub known_more : (old new : List (Bor (List ℕ))) (known : List (List ℕ)) (key : Bor (List ℕ)) → Puts old new key → AreKnown old known → AreKnown new (known ++ key.now ∷ [])
known_more old new known key puts are q =
    let bor : Bor (List ℕ) = record { ref_ptr = (0, 0); now = q } in
    sym (same_any q new) ∙ puts bor
    ∙ ap (λ (b : Bool). cond b true (list_any (λ k. is_eq (slice_cmp nat_cmp q k.now)) old)) (sym (texts_ties key.now q))
    ∙ ap (λ (b : Bool). cond (bytes_eq key.now q) true b) (same_any q old ∙ are q) ∙ sym (any_push q key.now known)

pub nothing_known : AreKnown [] []
nothing_known q = refl

pub known_next : (vs : List (Vec ℕ Global)) (i : ℕ) (v : Vec ℕ Global) (old new : List (Bor (List ℕ))) (key : Bor (List ℕ)) → i < length vs → v ≡ get_or vs i v → key.now ≡ v.items
    → Puts old new key → AreKnown old (lists (take i vs)) → AreKnown new (lists (take (i + 1) vs))
known_next vs i v old new key h is same puts are =
    subst (AreKnown new) (ap (λ (f : List ℕ). lists (take i vs) ++ f ∷ []) (same ∙ ap (λ (w : Vec ℕ Global). w.items) is) ∙ sym (map_more (λ (w : Vec ℕ Global). w.items) vs i v h))
    (known_more old new (lists (take i vs)) key puts are)

turned : (n : ℕ) (b : Bool) → cond (not b) (n ∷ []) [] ≡ cond b [] (n ∷ [])
turned n true = refl
turned n false = refl

-- one rule more
pub adds_new : (old new : List (Bor (List ℕ))) (before after : List ℕ) (n : ℕ) (key : Bor (List ℕ)) (added : Bool)
    → added ≡ not (list_any (λ k. is_eq (slice_cmp nat_cmp key.now k.now)) old) → Puts old new key → after ≡ before ++ cond added (n ∷ []) []
    → AddsNew old new before after n key.now
adds_new old new before after n key added is puts more = record {
  known = λ known are. known_more old new known key puts are;
  numbers = λ known are.
      more ∙ ap (λ (b : Bool). before ++ cond b (n ∷ []) []) (is ∙ ap not (same_any key.now old ∙ are key.now))
      ∙ ap (λ (ns : List ℕ). before ++ ns) (turned n (list_any (bytes_eq key.now) known));
}

append_nil : (ns : List ℕ) → ns ++ [] ≡ ns
append_nil [] = refl
append_nil (m ∷ ns) = ap (λ (l : List ℕ). m ∷ l) (append_nil ns)

pub with_it : (b : Bool) (before after : List ℕ) (n : ℕ) → b ≡ true → after ≡ before ++ n ∷ [] → after ≡ before ++ cond b (n ∷ []) []
with_it true before after n h e = e
with_it false before after n h e = absurd cc

pub without_it : (b : Bool) (before : List ℕ) (n : ℕ) → b ≡ false → before ≡ before ++ cond b (n ∷ []) []
without_it true before n h = absurd cc
without_it false before n h = sym (append_nil before)

range_more : (a n j : ℕ) → a + n ≡ j → range_with_len a (suc n) ≡ range_with_len a n ++ j ∷ []
range_more a zero j e = let same : a ≡ j = omega (arith, e) in ap (λ (k : ℕ). k ∷ []) same
range_more a (suc n) j e = ap (λ (l : List ℕ). a ∷ l) (range_more (a + 1) n j (omega (arith, e)))

-- n rules have been gone through: their forms are known beside the others', and the numbers are those of the new ones among them
pub record IsDone (keys : List (Bor (List ℕ))) (found : List ℕ) (others forms : List (List ℕ)) (n : ℕ) : Type 0 where
  pub known : AreKnown keys (others ++ take n forms)
  pub numbers : found ≡ filter (is_new others forms) (range_with_len 0 n)

pub none_done : (keys : List (Bor (List ℕ))) (numbers : List ℕ) (others forms : List (List ℕ)) → AreKnown keys others → numbers ≡ []
    → IsDone keys numbers others forms 0
none_done keys numbers others forms are e = record {
  known = λ q. are q ∙ sym (ap (list_any (bytes_eq q)) (all_of others));
  numbers = e;
}
  where
    all_of : (xs : List (List ℕ)) → xs ++ [] ≡ xs
    all_of [] = refl
    all_of (x ∷ xs) = ap (λ (l : List (List ℕ)). x ∷ l) (all_of xs)

done_more : (old new : List (Bor (List ℕ))) (before after : List ℕ) (others forms : List (List ℕ)) (n : ℕ) (form : List ℕ) → n < length forms
    → get_or forms n [] ≡ form → AddsNew old new before after n form → IsDone old before others forms n → IsDone new after others forms (n + 1)
done_more old new before after others forms n form lt is adds done =
    let known = others ++ take n forms in
    let all : known ++ form ∷ [] ≡ others ++ take (n + 1) forms =
    append_assoc others (take n forms) (form ∷ []) ∙ ap (λ (f : List ℕ). others ++ (take n forms ++ f ∷ [])) (sym is)
    ∙ ap (λ (fs : List (List ℕ)). others ++ fs) (sym (take_more forms n [] lt)) in
    let on : n + 1 ≡ suc n = omega arith in
    let range : range_with_len 0 (n + 1) ≡ range_with_len 0 n ++ n ∷ [] = ap (range_with_len 0) on ∙ range_more 0 n n (omega arith) in
    let p = is_new others forms in record {
      known = subst (AreKnown new) all (adds.known known done.known);
      numbers =
          adds.numbers known done.known ∙ ap (λ (ns : List ℕ). ns ++ cond (list_any (bytes_eq form) known) [] (n ∷ [])) done.numbers
          ∙ ap (λ (f : List ℕ). filter p (range_with_len 0 n) ++ cond (list_any (bytes_eq f) known) [] (n ∷ [])) (sym is)
          ∙ ap (λ (ns : List ℕ). filter p (range_with_len 0 n) ++ ns) (sym (turned n (list_any (bytes_eq (get_or forms n [])) known)))
          ∙ sym (filter-append p (range_with_len 0 n) (n ∷ [])) ∙ ap (filter p) (sym range);
    }

form_at : (vs : List (Vec ℕ Global)) (i : ℕ) (v : Vec ℕ Global) → i < length vs → v ≡ get_or vs i v → get_or (lists vs) i [] ≡ v.items
form_at [] i v lt is = absurd (omega (arith, lt))
form_at (w ∷ ws) zero v lt is = ap (λ (u : Vec ℕ Global). u.items) (sym is)
form_at (w ∷ ws) (suc i) v lt is = form_at ws i v (omega (arith, lt)) is

pub done_next : (old new : List (Bor (List ℕ))) (before after : List ℕ) (others : List (List ℕ)) (vs : List (Vec ℕ Global)) (n : ℕ)
    (v : Vec ℕ Global) (form : List ℕ) → n < length vs → v ≡ get_or vs n v → form ≡ v.items
    → AddsNew old new before after n form → IsDone old before others (lists vs) n → IsDone new after others (lists vs) (n + 1)
done_next old new before after others vs n v form lt is same adds done =
    done_more old new before after others (lists vs) n form (omega (arith, lt, length-map vs (λ (u : Vec ℕ Global). u.items)))
    (form_at vs n v lt is ∙ sym same) adds done
