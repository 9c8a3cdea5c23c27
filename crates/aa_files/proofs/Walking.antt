-- The walk goes on.
use Rattle.std.proofs.Common.{◌≡◌, ◌⊎◌, inl, inr, ℕ, zero, suc, ◌+◌, ◌<◌, ◌≤◌, Bool, List, [], ◌∷◌, ◌++◌, length, take}
use Rattle.std.proofs.Common.{map, Contains, Option, Some, None, IfSome, refl, sym, ap, subst, ◌∙◌, arith, length-append}
use Rattle.std.specs.List.{slice_get}
use Rattle.std.specs.BTreeMap.{insert_entry}
use Rattle.std.proofs.lemmas.Option.{slice_get_within}
use Rattle.std.proofs.lemmas.List.{take-append-le, take_all, append-nil}
use Rattle.std.proofs.lemmas.List.Elements.{Contains-append_left}
use Rattle.aa_files.specs.declared.unit.Source.{Source}
use Rattle.aa_files.specs.Files.{Files}
use Rattle.aa_files.specs.Walks.{Name, Entry, by_bytes, known_of, Asked, IsFoundAt, IsLookedUp, IsIncluded, walked_texts, LiesAt, NothingAt, IsWalk}
use Rattle.aa_files.specs.WalkData.{IsAdded, Adds}
use Rattle.aa_files.specs.WalkData.Adds.{Old, Missing, New}
use Rattle.aa_files.proofs.Known.{known_here, known_cases, known_kept}

-- an element behind a list
pub get_behind : (xs : List Source) (x y : Source) (n : ℕ) → slice_get (xs ++ x ∷ []) n ≡ Some y → (slice_get xs n ≡ Some y) ⊎ ((n ≡ length xs) × (x ≡ y))
get_behind [] x y zero e = let f : x ≡ y = cc in inr (refl, f)
get_behind [] x y (suc n) e = inl e
get_behind (z ∷ xs) x y zero e = inl e
get_behind (z ∷ xs) x y (suc n) e =
    elim (get_behind xs x y n e) [ inl h ↦ inl h | inr h ↦ let m : suc n ≡ length (z ∷ xs) = omega (arith, h.0) in inr (m, h.1) ]

pub get_before : (xs : List Source) (x y : Source) (n : ℕ) → slice_get xs n ≡ Some y → slice_get (xs ++ x ∷ []) n ≡ Some y
get_before [] x y n e = cc
get_before (z ∷ xs) x y zero e = e
get_before (z ∷ xs) x y (suc n) e = get_before xs x y n e

pub get_last : (xs : List Source) (x : Source) → slice_get (xs ++ x ∷ []) (length xs) ≡ Some x
get_last [] x = refl
get_last (z ∷ xs) x = get_last xs x

-- the texts, with one source more
pub texts_behind : (main : List ℕ) (xs : List Source) (x : Source) → walked_texts main (xs ++ x ∷ []) ≡ walked_texts main xs ++ x.text.items ∷ []
texts_behind main xs x = ap (λ (ts : List (List ℕ)). main ∷ ts) (by xs)
  where
    by : (xs : List Source) → map (λ s. s.text.items) (xs ++ x ∷ []) ≡ map (λ s. s.text.items) xs ++ x.text.items ∷ []
    by [] = refl
    by (z ∷ xs) = ap (λ (ts : List (List ℕ)). z.text.items ∷ ts) (by xs)

pub count_texts : (main : List ℕ) (xs : List Source) → length (walked_texts main xs) ≡ length xs + 1
count_texts main xs = omega (arith, by xs)
  where
    by : (xs : List Source) → length (map (λ s. s.text.items) xs) ≡ length xs
    by [] = refl
    by (z ∷ xs) = omega (arith, by xs)

-- the first texts stay the first
pub texts_kept : (main : List ℕ) (xs : List Source) (x : Source) (n : ℕ) → n ≤ length xs + 1 → take n (walked_texts main (xs ++ x ∷ [])) ≡ take n (walked_texts main xs)
texts_kept main xs x n h =
    let within : n ≤ length (walked_texts main xs) = omega (arith, count_texts main xs) in
    ap (λ (ts : List (List ℕ)). take n ts) (texts_behind main xs x) ∙ take-append-le n (walked_texts main xs) (x.text.items ∷ []) within

pub included_more : (folders texts more : List (List ℕ)) (a : Asked) → IsIncluded folders texts a → IsIncluded folders (texts ++ more) a
included_more folders texts more a h = record { text = h.text; among = Contains-append_left texts more h.text h.among; asked = h.asked; asks = h.asks; has = h.has }

included_all : (folders : List (List ℕ)) (main : List ℕ) (xs : List Source) (x : Source) (a : Asked) → IsIncluded folders (walked_texts main xs) a → IsIncluded folders (walked_texts main (xs ++ x ∷ [])) a
included_all folders main xs x a h = subst (λ (ts : List (List ℕ)). IsIncluded folders ts a) (sym (texts_behind main xs x)) (included_more folders (walked_texts main xs) (x.text.items ∷ []) a h)

module _ (files : Option Files) (folders : List (List ℕ)) (main : List ℕ) where
  pub walk_missing : (sources : List Source) (es : List Entry) (k : Name) (paths : List (List ℕ)) → known_of es k.items ≡ None → IsIncluded folders (walked_texts main sources) (k.items, paths) → NothingAt files paths
      → IsWalk files folders main sources es → IsWalk files folders main sources (insert_entry by_bytes es k None)
  walk_missing sources es k paths none inc nothing w = record {
    few = w.few;
    named = λ n s e. known_kept es k None s.name.items (Some n) none (w.named n s e);
    led = λ name n e. elim (known_cases es k None name (Some n) none e) [ inl h ↦ w.led name n h | inr h ↦ absurd (apart n h.1) ];
    reached = w.reached;
    missing = λ name e. elim (known_cases es k None name None none e) [ inl h ↦ w.missing name h | inr h ↦ (paths, subst (λ (t : List ℕ). IsIncluded folders (walked_texts main sources) (t, paths)) (sym h.0) inc, nothing) ];
  }
    where
      apart : (n : ℕ) → None ≡ Some n → ⊥
      apart n e = cc

  pub walk_source : (sources : List Source) (es : List Entry) (k : Name) (s : Source) (paths : List (List ℕ)) → known_of es k.items ≡ None
      → s.name.items ≡ k.items → length sources < 4095 → IsIncluded folders (walked_texts main sources) (s.name.items, paths)
      → LiesAt files paths s.path.items (s.text.items, s.is_folder) → IsWalk files folders main sources es → IsWalk files folders main (sources ++ s ∷ []) (insert_entry by_bytes es k (Some (length sources)))
  walk_source sources es k s paths none name-is room inc lies w = record {
    few = omega (arith, length-append sources (s ∷ []));
    named = λ n t e. elim (get_behind sources s t n e) [ inl h ↦ known_kept es k (Some (length sources)) t.name.items (Some n) none (w.named n t h) | inr h ↦ last_named n t h.0 h.1 ];
    led = λ name n e. elim (known_cases es k (Some (length sources)) name (Some n) none e) [ inl h ↦ let g = w.led name n h in (g.0, get_before sources s g.0 n g.1, g.2) | inr h ↦ last_led name n h.0 h.1 ];
    reached = λ n t e. elim (get_behind sources s t n e) [ inl h ↦ before_reached n t h | inr h ↦ last_reached n t h.0 h.1 ];
    missing = λ name e. elim (known_cases es k (Some (length sources)) name None none e) [ inl h ↦ let g = w.missing name h in (g.0, included_all folders main sources s (name, g.0) g.1, g.2) | inr h ↦ absurd (apart h.1) ];
  }
    where
      es' : List Entry
      es' = insert_entry by_bytes es k (Some (length sources))

      apart : Some (length sources) ≡ None → ⊥
      apart e = cc

      last_named : (n : ℕ) (t : Source) → n ≡ length sources → s ≡ t → known_of (insert_entry by_bytes es k (Some (length sources))) t.name.items ≡ Some (Some n)
      last_named n t e f =
          let same : t.name.items ≡ k.items = ap (λ (x : Source). x.name.items) (sym f) ∙ name-is in
          ap (λ (q : List ℕ). known_of (insert_entry by_bytes es k (Some (length sources))) q) same ∙ known_here es k (Some (length sources)) none ∙ ap (λ (m : ℕ). Some (Some m)) (sym e)

      last_led : (name : List ℕ) (n : ℕ) → name ≡ k.items → Some (length sources) ≡ Some n → (t : Source) × (slice_get (sources ++ s ∷ []) n ≡ Some t) × (t.name.items ≡ name)
      last_led name n e f =
          let number : length sources ≡ n = cc in
          (s, ap (λ (m : ℕ). slice_get (sources ++ s ∷ []) m) (sym number) ∙ get_last sources s, name-is ∙ sym e)

      before_reached : (n : ℕ) (t : Source) → slice_get sources n ≡ Some t
          → (ps : List (List ℕ)) × IsIncluded folders (take (n + 1) (walked_texts main (sources ++ s ∷ [])))
          (t.name.items, ps) × LiesAt files ps t.path.items (t.text.items, t.is_folder)
      before_reached n t h =
          let within : n + 1 ≤ length sources + 1 = omega (arith, slice_get_within sources n t h) in
          let g = w.reached n t h in
          (g.0, subst (λ (ts : List (List ℕ)). IsIncluded folders ts (t.name.items, g.0)) (sym (texts_kept main sources s (n + 1) within)) g.1, g.2)

      last_reached : (n : ℕ) (t : Source) → n ≡ length sources → s ≡ t
          → (ps : List (List ℕ)) × IsIncluded folders (take (n + 1) (walked_texts main (sources ++ s ∷ [])))
          (t.name.items, ps) × LiesAt files ps t.path.items (t.text.items, t.is_folder)
      last_reached n t e f =
          let within : n + 1 ≤ length sources + 1 = omega arith in
          let whole : length (walked_texts main sources) ≤ n + 1 = omega (arith, count_texts main sources) in
          let texts-are : take (n + 1) (walked_texts main (sources ++ s ∷ [])) ≡ walked_texts main sources = texts_kept main sources s (n + 1) within ∙ take_all (n + 1) (walked_texts main sources) whole in
          subst (λ (t : Source). (ps : List (List ℕ)) × IsIncluded folders (take (n + 1) (walked_texts main (sources ++ s ∷ []))) (t.name.items, ps) × LiesAt files ps t.path.items (t.text.items, t.is_folder)) f
          (paths, subst (λ (ts : List (List ℕ)). IsIncluded folders ts (s.name.items, paths)) (sym texts-are) inc, lies)

  -- the same, as the code says it
  pub walk_added : (sources : List Source) (es : List Entry) (a : Asked) (path : List ℕ) (read : List ℕ × Bool) (sources' : List Source)
      (es' : List Entry) → known_of es a.0 ≡ None → IsIncluded folders (walked_texts main sources) a
      → LiesAt files a.1 path read → IsAdded a.0 path read sources es sources' es' → IsWalk files folders main sources es → IsWalk files folders main sources' es'
  walk_added sources es a path read sources' es' none inc lies add w =
      let none' : known_of es add.key.items ≡ None = ap (λ (q : List ℕ). known_of es q) add.key_is ∙ none in
      let inc' : IsIncluded folders (walked_texts main sources) (add.source.name.items, a.1) = subst (λ (q : List ℕ). IsIncluded folders (walked_texts main sources) (q, a.1)) (sym add.name_is) inc in
      let read-is : (add.source.text.items, add.source.is_folder) ≡ read = ap (λ (t : List ℕ). (t, add.source.is_folder)) add.text_is ∙ ap (λ (b : Bool). (read.0, b)) add.folder_is in
      let lies' : LiesAt files a.1 add.source.path.items (add.source.text.items, add.source.is_folder) = subst
      (λ (p : List ℕ). LiesAt files a.1 p (add.source.text.items, add.source.is_folder)) (sym add.path_is)
      (subst (λ (r : List ℕ × Bool). LiesAt files a.1 path r) (sym read-is) lies) in
      let more : IsWalk files folders main (sources ++ add.source ∷ [])
      (insert_entry by_bytes es add.key (Some (length sources))) = walk_source sources es add.key add.source a.1 none'
      (add.name_is ∙ sym add.key_is) add.room inc' lies' w in
      subst (λ (ss : List Source). IsWalk files folders main ss es') (sym add.pushed) (subst (λ (q : List Entry). IsWalk files folders main (sources ++ add.source ∷ []) q) (sym add.entered) more)

  pub walk_more : (a : Asked) (sources : List Source) (es : List Entry) (sources' : List Source) (es' : List Entry)
      → IsIncluded folders (walked_texts main sources) a → Adds files a sources es sources' es' → IsWalk files folders main sources es
      → IsWalk files folders main sources' es'
  walk_more a sources es sources' es' inc (Old was e at s-is es-is) w = subst (λ (ss : List Source). IsWalk files folders main ss es') (sym s-is) (subst (λ (q : List Entry). IsWalk files folders main sources q) (sym es-is) w)
  walk_more a sources es sources' es' inc (Missing key e none nothing s-is es-is) w =
      let none' : known_of es key.items ≡ None = ap (λ (q : List ℕ). known_of es q) e ∙ none in
      let inc' : IsIncluded folders (walked_texts main sources) (key.items, a.1) = subst (λ (q : List ℕ). IsIncluded folders (walked_texts main sources) (q, a.1)) (sym e) inc in
      subst (λ (ss : List Source). IsWalk files folders main ss es') (sym s-is) (subst (λ (q : List Entry). IsWalk files folders main sources q) (sym es-is) (walk_missing sources es key a.1 none' inc' nothing w))
  walk_more a sources es sources' es' inc (New path read none lies add) w = walk_added sources es a path read sources' es' none inc lies add w

module _ (files : Option Files) (a : Asked) (sources : List Source) (es : List Entry) (sources' : List Source) (es' : List Entry) where
  adds_value : Adds files a sources es sources' es' → (q : List ℕ) (w : Option ℕ) → known_of es q ≡ Some w → known_of es' q ≡ Some w
  adds_value (Old was e at s-is es-is) q w h = ap (λ (r : List Entry). known_of r q) es-is ∙ h
  adds_value (Missing key e none nothing s-is es-is) q w h = ap (λ (r : List Entry). known_of r q) es-is ∙ known_kept es key None q w (ap (λ (t : List ℕ). known_of es t) e ∙ none) h
  adds_value (New path read none lies add) q w h = ap (λ (r : List Entry). known_of r q) add.entered ∙ known_kept es add.key (Some (length sources)) q w (ap (λ (t : List ℕ). known_of es t) add.key_is ∙ none) h

  pub adds_behind : Adds files a sources es sources' es' → (more : List Source) × (sources' ≡ sources ++ more)
  adds_behind (Old was e at s-is es-is) = ([], s-is ∙ sym (append-nil sources))
  adds_behind (Missing key e none nothing s-is es-is) = ([], s-is ∙ sym (append-nil sources))
  adds_behind (New path read none lies add) = (add.source ∷ [], add.pushed)

get_front : (xs ys : List Source) (y : Source) (n : ℕ) → slice_get xs n ≡ Some y → slice_get (xs ++ ys) n ≡ Some y
get_front [] ys y n e = cc
get_front (x ∷ xs) ys y zero e = e
get_front (x ∷ xs) ys y (suc n) e = get_front xs ys y n e

module _ (files : Option Files) (folders : List (List ℕ)) (main : List ℕ) (a : Asked) (sources : List Source) (es : List Entry) (sources' : List Source) (es' : List Entry) where
  found_kept : Adds files a sources es sources' es' → (paths : List (List ℕ)) (v : Option ℕ)
      → ((n : ℕ) → v ≡ Some n → (s : Source) × (slice_get sources n ≡ Some s)) → IsFoundAt files sources paths v
      → IsFoundAt files sources' paths v
  found_kept adds paths None there h = h
  found_kept adds paths (Some n) there h =
      let s = there n refl in
      let more = adds_behind files a sources es sources' es' adds in
      let now : slice_get sources' n ≡ Some s.0 = ap (λ (ss : List Source). slice_get ss n) more.1 ∙ get_front sources more.0 s.0 n s.1 in
      subst (λ (o : Option Source). IfSome o (λ t. Contains paths t.path.items)) (sym now) (subst (λ (o : Option Source). IfSome o (λ t. Contains paths t.path.items)) s.1 h)

  -- what was looked up before stays so
  pub looked_kept : IsWalk files folders main sources es → Adds files a sources es sources' es' → (b : Asked) → IsLookedUp files sources es b → IsLookedUp files sources' es' b
  looked_kept w adds b h = record {
    number = h.number;
    known = adds_value files a sources es sources' es' adds b.0 h.number h.known;
    found = found_kept adds b.1 h.number (λ n is. let g = w.led b.0 n (h.known ∙ ap (λ (o : Option ℕ). Some o) is) in (g.0, g.1)) h.found;
  }

  -- and what is looked up now is
  pub looked_new : Adds files a sources es sources' es' → IsLookedUp files sources' es' a
  looked_new (Old was e at s-is es-is) = record {
    number = was;
    known = ap (λ (r : List Entry). known_of r a.0) es-is ∙ e;
    found = subst (λ (ss : List Source). IsFoundAt files ss a.1 was) (sym s-is) at;
  }
  looked_new (Missing key e none nothing s-is es-is) =
      let none' : known_of es key.items ≡ None = ap (λ (t : List ℕ). known_of es t) e ∙ none in
      record {
        number = None;
        known = ap (λ (r : List Entry). known_of r a.0) es-is ∙ ap (λ (t : List ℕ). known_of (insert_entry by_bytes es key None) t) (sym e) ∙ known_here es key None none';
        found = nothing;
      }
  looked_new (New path read none lies add) =
      let none' : known_of es add.key.items ≡ None = ap (λ (t : List ℕ). known_of es t) add.key_is ∙ none in
      let last : slice_get sources' (length sources) ≡ Some add.source = ap (λ (ss : List Source). slice_get ss (length sources)) add.pushed ∙ get_last sources add.source in
      record {
        number = Some (length sources);
        known = ap (λ (r : List Entry). known_of r a.0) add.entered ∙ ap (λ (t : List ℕ). known_of (insert_entry by_bytes es add.key (Some (length sources))) t) (sym add.key_is) ∙ known_here es add.key (Some (length sources)) none';
        found = subst (λ (o : Option Source). IfSome o (λ t. Contains a.1 t.path.items)) (sym last) (subst (λ (p : List ℕ). Contains a.1 p) (sym add.path_is) lies.searched);
      }
