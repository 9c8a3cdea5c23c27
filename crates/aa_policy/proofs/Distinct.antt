-- Names so far, in a set and in a list.
use Rattle.std.proofs.Common.{◌≡◌, ℕ, ◌+◌, ◌<◌, List, [], ◌∷◌, ◌++◌, length, take, drop, get_or, Bool, true, false, cond, refl, sym, ap, subst, ◌∙◌, Bor}
use Rattle.std.specs.Prelude.{not, ◌||◌}
use Rattle.std.specs.Str.{bytes_eq}
use Rattle.std.specs.List.{list_any, IsDistinct}
use Rattle.std.specs.Cmp.Lexicographic.{nat_list_eq_equiv, slice_cmp, texts_ties}
use Rattle.std.specs.Ordering.{is_eq, nat_cmp}
use Rattle.std.proofs.lemmas.List.{map_more, drop_more, take-append-drop}
use Rattle.std.proofs.lemmas.List.Folds.{list_any-append}
use Rattle.std.proofs.lemmas.Map.Keys.{IsDistinct-push}
use Rattle.aa_model.specs.declared.policy.Profile.{Profile}
use Rattle.aa_model.specs.Lawful.{names_of}
use Rattle.aa_policy.specs.Spelling.{IsRepeated}

pub distinct_none : IsDistinct bytes_eq []
unfolding IsDistinct
distinct_none = tt

-- an added name is none of those before
pub absent : (n : Bool) (b : Bool) → b ≡ not n → b ≡ true → n ≡ false
absent true b e t = absurd cc
absent false b e t = refl

-- a name that is not added is one of those before
pub present : (n : Bool) (b : Bool) → b ≡ not n → b ≡ false → n ≡ true
present true b e t = refl
present false b e t = absurd cc

last_any : (o : Bool) (b : Bool) → (o || (b || false)) ≡ cond b true o
last_any true true = refl
last_any true false = refl
last_any false true = refl
last_any false false = refl

any_push : (q name : List ℕ) (xs : List (List ℕ)) → list_any (bytes_eq q) (xs ++ name ∷ []) ≡ cond (bytes_eq name q) true (list_any (bytes_eq q) xs)
any_push q name xs =
    list_any-append (bytes_eq q) xs (name ∷ []) ∙ last_any (list_any (bytes_eq q) xs) (bytes_eq q name)
    ∙ ap (λ (b : Bool). cond b true (list_any (bytes_eq q) xs)) (nat_list_eq_equiv.symm q name)

-- a name compares equal to those that it is
same_any : (q : List ℕ) (ks : List (Bor (List ℕ))) → list_any (λ k. is_eq (slice_cmp nat_cmp q k.now)) ks ≡ list_any (λ k. bytes_eq q k.now) ks
same_any q [] = refl
same_any q (k ∷ ks) =
    ap (λ (b : Bool). b || list_any (λ j. is_eq (slice_cmp nat_cmp q j.now)) ks) (sym (texts_ties q k.now))
    ∙ ap (λ (b : Bool). bytes_eq q k.now || b) (same_any q ks)

-- whether a name is in the set
pub known_in : (ks : List (Bor (List ℕ))) (names : List (List ℕ)) (q : List ℕ)
    → ((q : List ℕ) → list_any (λ k. bytes_eq q k.now) ks ≡ list_any (bytes_eq q) names) → list_any (bytes_eq q) names ≡ list_any (λ k. is_eq (slice_cmp nat_cmp q k.now)) ks
known_in ks names q known = sym (known q) ∙ sym (same_any q ks)

-- the set has one name more, as the list has
pub known_more : (old new : List (Bor (List ℕ))) (names : List (List ℕ)) (key : Bor (List ℕ))
    → ((q : Bor (List ℕ)) → list_any (λ k. is_eq (slice_cmp nat_cmp q.now k.now)) new ≡ cond (is_eq (slice_cmp nat_cmp key.now q.now)) true (list_any (λ k. is_eq (slice_cmp nat_cmp q.now k.now)) old))
    → ((q : List ℕ) → list_any (λ k. bytes_eq q k.now) old ≡ list_any (bytes_eq q) names)
    → (q : List ℕ) → list_any (λ k. bytes_eq q k.now) new ≡ list_any (bytes_eq q) (names ++ key.now ∷ [])
known_more old new names key updates known q =
    let bor : Bor (List ℕ) = record { ref_ptr = (0, 0); now = q } in
    sym (same_any q new) ∙ updates bor
    ∙ ap (λ (b : Bool). cond b true (list_any (λ k. is_eq (slice_cmp nat_cmp q k.now)) old)) (sym (texts_ties key.now q))
    ∙ ap (λ (b : Bool). cond (bytes_eq key.now q) true b) (same_any q old ∙ known q) ∙ sym (any_push q key.now names)

-- the names of one profile more
pub names_more : (ps : List Profile) (i : ℕ) (p : Profile) (name : List ℕ) → i < length ps → p ≡ get_or ps i p → name ≡ p.name → names_of (take (i + 1) ps) ≡ names_of (take i ps) ++ name ∷ []
names_more ps i p name h e n = map_more (λ (x : Profile). x.name) ps i p h ∙ ap (λ (x : List ℕ). names_of (take i ps) ++ x ∷ []) (ap (λ (x : Profile). x.name) (sym e) ∙ sym n)

pub distinct_more : (xs : List (List ℕ)) (name : List ℕ) → IsDistinct bytes_eq xs → list_any (bytes_eq name) xs ≡ false → IsDistinct bytes_eq (xs ++ name ∷ [])
distinct_more xs name d h = IsDistinct-push nat_list_eq_equiv xs name d h

pub repeated_at : (ps : List Profile) (i : ℕ) (p : Profile) (name : List ℕ) → i < length ps → p ≡ get_or ps i p → name ≡ p.name
    → list_any (bytes_eq name) (names_of (take i ps)) ≡ true → IsDistinct bytes_eq (names_of (take i ps)) → IsRepeated ps p.at
repeated_at ps i p name h e n r d = record {
  before = take i ps;
  profile = p;
  after = drop (i + 1) ps;
  cut = sym (take-append-drop i ps) ∙ ap (λ (x : List Profile). take i ps ++ x) (drop_more ps i p h ∙ ap (λ (x : Profile). x ∷ drop (i + 1) ps) (sym e));
  at_is = refl;
  repeats = subst (λ (x : List ℕ). list_any (bytes_eq x) (names_of (take i ps)) ≡ true) n r;
  first = d;
}
