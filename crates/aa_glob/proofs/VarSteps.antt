-- Entries of a table as variables.
use Rattle.std.proofs.Common.{◌≡◌, ℕ, ◌<◌, Bool, true, false, cond, List, [], ◌∷◌, ◌++◌, map, get_or, set, length, Some, None, is_some, Vec, Global, refl, sym, ap, ◌∙◌, arith}
use Rattle.std.specs.Map.{lookup, KeepsOthers}
use Rattle.std.specs.Ordering.{is_eq, eq_by_cmp, nat_cmp}
use Rattle.std.specs.Cmp.Lexicographic.{nat_list_eq_equiv, slice_cmp, texts_ties}
use Rattle.std.specs.Str.{bytes_eq}
use Rattle.std.proofs.lemmas.List.{length-map, get_or-map, map-set, set-get_or, map_push}
use Rattle.std.proofs.lemmas.Slice.Eq.{bytes_eq-Decides}
use Rattle.aa_glob.specs.Variables.{Variable, variable, has_name, with_more, values_of}
use Rattle.aa_glob.specs.NamePlaces.{place_of, ArePlaces}
use Rattle.aa_glob.proofs.Tables.{same_bytes}

abbrev pub Entry : Type 0
Entry = Vec ℕ Global × Vec (Vec ℕ Global) Global

-- the place of a name tells whether it is there
pub there : (name : List ℕ) (vs : List Variable) → is_some (place_of name vs) ≡ has_name name vs
there name [] = refl
there name (v ∷ vs) = grind (arith, there name vs)

-- the place is one of the table
pub within : (name : List ℕ) (vs : List Variable) (i : ℕ) → place_of name vs ≡ Some i → i < length vs
within name [] i e = absurd cc
within name (v ∷ vs) i e = grind (arith, within name vs)

-- the values that stand at the place of a name
pub value_there : (name : List ℕ) (vs : List Variable) (i : ℕ) (v : Variable) → place_of name vs ≡ Some i → v ≡ get_or vs i v → values_of vs name ≡ Some v.values
unfolding values_of
value_there name [] i v at is = absurd cc
value_there name (w ∷ ws) i v at is = grind (arith, value_there name ws)

-- a name without a place has no values
pub none_there : (name : List ℕ) (vs : List Variable) → place_of name vs ≡ None → values_of vs name ≡ None
unfolding values_of
none_there name [] e = refl
none_there name (v ∷ vs) e = grind (arith, none_there name vs)

-- more values at the place of a name
more_there : (name : List ℕ) (more : List (List ℕ)) (vs : List Variable) (i : ℕ) (v : Variable) → place_of name vs ≡ Some i → v ≡ get_or vs i v → set vs i (record v { values = v.values ++ more }) ≡ with_more name more vs
unfolding with_more
more_there name more [] i v at is = absurd cc
more_there name more (w ∷ ws) i v at is = grind (arith, more_there name more ws)

-- an entry is the variable there
pub entry_there : (es : List Entry) (vs : List Variable) (i : ℕ) (e : Entry) → map variable es ≡ vs → i < length vs → e ≡ get_or es i e → variable e ≡ get_or vs i (variable e)
entry_there es vs i e view h is =
    ap variable is ∙ sym (get_or-map variable es i e (variable e) (omega (arith, length-map es variable, ap length view, h))) ∙ ap (λ ws. get_or ws i (variable e)) view

-- an entry with more values, and with as many as before
pub more_at : (name : List ℕ) (more : List (List ℕ)) (es : List Entry) (i : ℕ) (e : Entry) (w : Vec (Vec ℕ Global) Global) → e ≡ get_or es i e → map (λ v. v.items) w.items ≡ map (λ v. v.items) e.1.items ++ more →
    place_of name (map variable es) ≡ Some i → map variable (set es i (e.0, w)) ≡ with_more name more (map variable es)
more_at name more es i e w is more_is at =
    map-set variable es i (e.0, w) ∙ ap (λ (vs : List (List ℕ)). set (map variable es) i (record { name = e.0.items; values = vs })) more_is
    ∙ more_there name more (map variable es) i (variable e) at (entry_there es (map variable es) i e refl (within name (map variable es) i at) is)

pub same_at : (es : List Entry) (i : ℕ) (e : Entry) (w : Vec (Vec ℕ Global) Global) → e ≡ get_or es i e → w.items ≡ e.1.items → map variable (set es i (e.0, w)) ≡ map variable es
same_at es i e w is same =
    map-set variable es i (e.0, w) ∙ ap (λ (vs : List (Vec ℕ Global)). set (map variable es) i (record { name = e.0.items; values = map (λ v. v.items) vs })) same
    ∙ sym (map-set variable es i e) ∙ ap (λ (x : Entry). map variable (set es i x)) is ∙ ap (map variable) (set-get_or es i e)

-- names keep their places where one gets more values
pub places_stay : (name : List ℕ) (more : List (List ℕ)) (vs : List Variable) (q : List ℕ) → place_of q (with_more name more vs) ≡ place_of q vs
unfolding with_more
places_stay name more [] q = refl
places_stay name more (v ∷ vs) q = grind (arith, places_stay name more vs q)

-- a new name goes last
place_pushed : (q : List ℕ) (v : Variable) (vs : List Variable) → has_name v.name vs ≡ false → place_of q (vs ++ v ∷ []) ≡ cond (bytes_eq v.name q) (Some (length vs)) (place_of q vs)
place_pushed q v [] h = ap (λ (b : Bool). cond b (Some 0) None) (nat_list_eq_equiv.symm q v.name)
place_pushed q v (w ∷ ws) h = grind (arith, bytes_eq-Decides, place_pushed q v ws)

-- whether a name compares equal to a key
abbrev pub equals : List ℕ → Vec ℕ Global → Bool
equals q k = is_eq (slice_cmp nat_cmp q k.items)

equal : (q : List ℕ) (k : Vec ℕ Global) → equals q k ≡ true → q ≡ k.items
equal q k e = same_bytes q k.items (texts_ties q k.items ∙ e)

-- no key equals two names
apart : (name q : List ℕ) → bytes_eq name q ≡ false → (k : Vec ℕ Global) → equals name k ≡ true → equals q k ≡ false
apart name q f k e = grind (arith, texts_ties, bytes_eq-Decides, equal)

-- each name is at its place after a new one went to the end
pub places_pushed : (places new : List (Vec ℕ Global × ℕ)) (es : List Entry) (key name : Vec ℕ Global) (values : Vec (Vec ℕ Global) Global) (n : ℕ) → ArePlaces places es →
    has_name name.items (map variable es) ≡ false → key.items ≡ name.items → n ≡ length es → lookup (equals key.items) new ≡ Some n →
    KeepsOthers (eq_by_cmp (λ (x y : Vec ℕ Global). slice_cmp nat_cmp x.items y.items)) (equals key.items) places new → ArePlaces new (es ++ (name, values) ∷ [])
unfolding KeepsOthers
places_pushed places new es key name values n are none same is here others = λ q. by q (bytes_eq key.items q) refl
  where
    behind : (q : List ℕ) → place_of q (map variable (es ++ (name, values) ∷ [])) ≡ cond (bytes_eq key.items q) (Some n) (place_of q (map variable es))
    behind q = grind (arith, map_push, place_pushed, length-map)

    by : (q : List ℕ) (b : Bool) → bytes_eq key.items q ≡ b → lookup (equals q) new ≡ place_of q (map variable (es ++ (name, values) ∷ []))
    by q true e =
        ap (λ (t : List ℕ). lookup (equals t) new) (sym (same_bytes key.items q e)) ∙ here
        ∙ sym (behind q ∙ ap (λ (b : Bool). cond b (Some n) (place_of q (map variable es))) e)
    by q false e =
        others (equals q) (λ x y h. ap (λ (t : List ℕ). is_eq (slice_cmp nat_cmp t y.items)) (equal q x h)) (apart key.items q e) ∙ are q
        ∙ sym (behind q ∙ ap (λ (b : Bool). cond b (Some n) (place_of q (map variable es))) e)
