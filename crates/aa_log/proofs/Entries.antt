-- Entries, once a line more asks something.
use Rattle.std.proofs.Common.{◌≡◌, ℕ, zero, suc, ◌+◌, ◌<◌, ◌≤◌, nat_lt, List, [], ◌∷◌, ◌++◌, length, map, take, set, get_or, Bool, cond, not, Option, Some, None, refl, sym, ap, ◌∙◌, arith}
use Rattle.std.specs.Prelude.{slice_get, min}
use Rattle.std.specs.List.{position, position_or_len}
use Rattle.std.specs.Option.{option_or}
use Rattle.std.specs.Str.{bytes_eq}
use Rattle.std.specs.HashMap.{HashMap, get_by}
use Rattle.std.specs.declared.vec.Vec.{Vec}
use Rattle.std.proofs.lemmas.List.{map-append, length-map, length-set, map-set, take_all, length-append, get_or_at, take_at}
use Rattle.std.proofs.lemmas.List.Quantifiers.{position-Some}
use Rattle.aa_base.proofs.FirstNumbers.{position_more}
use Rattle.aa_notation.specs.Kinds.{word_text}
use Rattle.aa_log.specs.declared.logging.Entry.{Entry}
use Rattle.aa_log.specs.Counted.{greatest, firsts, Counted, counted}
use Rattle.aa_log.specs.Printed.{key_text}
use Rattle.aa_log.specs.Found.{Asked, asked_key, entry_data, entry_key, AreNumbered, AddsKey, HaveWords, AreFound}
use Rattle.aa_log.proofs.Counting.{with_one, eq_sym, more_of_it, at_place, behind_all, counted-more, length-counted}

module _ {X Y : Type 0} where
  pos_map : (p : Y → Bool) (f : X → Y) (xs : List X) → position_or_len p (map f xs) ≡ position_or_len (λ x. p (f x)) xs
  pos_map p f [] = refl
  pos_map p f (x ∷ xs) = ap (λ (n : ℕ). cond (not (p (f x))) (1 + n) 0) (pos_map p f xs)

  -- the first place that passes, in a list of what is read of each
  pub position-map : (p : Y → Bool) (f : X → Y) (xs : List X) → position p (map f xs) ≡ position (λ x. p (f x)) xs
  position-map p f xs =
      ap (λ (n : ℕ). cond (nat_lt n (length (map f xs))) (Some n) None) (pos_map p f xs)
      ∙ ap (λ (m : ℕ). cond (nat_lt (position_or_len (λ x. p (f x)) xs) m) (Some (position_or_len (λ x. p (f x)) xs)) None) (length-map xs f)

module _ {X : Type 0} where
  -- the first place that passes, in a list with one element more
  pub position_push : (p : X → Bool) (xs : List X) (y : X) → position p (xs ++ y ∷ []) ≡ option_or (position p xs) (cond (p y) (Some (length xs)) None)
  position_push p xs y =
      let n : ℕ = length xs in
      let whole : take (n + 1) (xs ++ y ∷ []) ≡ xs ++ y ∷ [] = take_all (n + 1) (xs ++ y ∷ []) (omega (arith, length-append xs (y ∷ []))) in
      let front : take n (xs ++ y ∷ []) ≡ xs = take_at xs (y ∷ []) n refl in
      ap (position p) (sym whole)
      ∙ position_more p (xs ++ y ∷ []) n y (omega (arith, length-append xs (y ∷ []))) (sym (get_or_at xs y [] y n refl))
      ∙ ap (λ (l : List X). option_or (position p l) (cond (p y) (Some n) None)) front

  -- an element that is there
  pub record IsThere (xs : List X) (n : ℕ) : Type 0 where
    pub element : X
    pub is : slice_get xs n ≡ Some element

  pub there_is : (xs : List X) (n : ℕ) → n < length xs → IsThere xs n
  there_is [] n lt = absurd (omega (arith, lt))
  there_is (x ∷ xs) zero lt = record { element = x; is = refl }
  there_is (x ∷ xs) (suc n) lt = let rest = there_is xs n (omega (arith, lt)) in record { element = rest.element; is = rest.is }

  pub get_there : (xs : List X) (n : ℕ) (e d : X) → slice_get xs n ≡ Some e → get_or xs n d ≡ e
  get_there [] n e d is = absurd (cc)
  get_there (x ∷ xs) zero e d is = cc
  get_there (x ∷ xs) (suc n) e d is = get_there xs n e d is

module _ {X Z : Type 0} where
  pub map_there : (f : X → Z) (xs : List X) (n : ℕ) (e : X) → slice_get xs n ≡ Some e → slice_get (map f xs) n ≡ Some (f e)
  map_there f [] n e is = absurd (cc)
  map_there f (x ∷ xs) zero e is = (let here : x ≡ e = cc in ap (λ (y : X). Some (f y)) here)
  map_there f (x ∷ xs) (suc n) e is = map_there f xs n e is

  -- what is read alike of an element and of what stands in its place is read alike of the whole
  pub keep_map : (f : X → Z) (xs : List X) (n : ℕ) (e new : X) → slice_get xs n ≡ Some e → f new ≡ f e → map f (set xs n new) ≡ map f xs
  keep_map f [] n e new is same = refl
  keep_map f (x ∷ xs) zero e new is same = (let here : x ≡ e = cc in ap (λ (z : Z). z ∷ map f xs) (same ∙ ap f (sym here)))
  keep_map f (x ∷ xs) (suc n) e new is same = ap (λ (l : List Z). f x ∷ l) (keep_map f xs n e new is same)

-- by their words entries are found by what is printed of their requests
keys_same : (es : List Entry) → HaveWords es → map (λ (c : Counted Asked). asked_key c.item) (map entry_data es) ≡ map entry_key es
keys_same [] w = refl
keys_same (e ∷ es) w =
    let head : e.word.items ≡ word_text e.request = cc in
    let tail : HaveWords es = cc in
    ap (λ (k : List ℕ). k ∷ map (λ (c : Counted Asked). asked_key c.item) (map entry_data es)) (ap (key_text e.then e.profile.items) (sym head))
    ∙ ap (λ (l : List (List ℕ)). entry_key e ∷ l) (keys_same es tail)

place_in : (es : List Entry) (key : List ℕ) → HaveWords es → position (λ (c : Counted Asked). bytes_eq (asked_key c.item) key) (map entry_data es) ≡ position (λ (k : List ℕ). bytes_eq k key) (map entry_key es)
place_in es key w = sym (position-map (λ (k : List ℕ). bytes_eq k key) (λ (c : Counted Asked). asked_key c.item) (map entry_data es)) ∙ ap (position (λ (k : List ℕ). bytes_eq k key)) (keys_same es w)

-- an entry that is counted once more
counted_again : (es new : List Entry) (n : ℕ) (e : Entry) (a : Asked) → HaveWords es
    → position (λ (k : List ℕ). bytes_eq k (asked_key a)) (map entry_key es) ≡ Some n → slice_get es n ≡ Some e
    → new ≡ set es n (record e { count = min (e.count + 1) greatest })
    → map entry_data new ≡ with_one asked_key (map entry_data es) a
counted_again es new n e a w found there is =
    let d : Counted Asked = entry_data e in
    ap (map entry_data) is ∙ map-set entry_data es n (record e { count = min (e.count + 1) greatest })
    ∙ ap (λ (c : Counted Asked). set (map entry_data es) n (more_of_it c)) (sym (get_there (map entry_data es) n d d (map_there entry_data es n e there)))
    ∙ sym (at_place asked_key (map entry_data es) a n d (place_in es (asked_key a) w ∙ found))

words_again : (es new : List Entry) (n : ℕ) (e : Entry) → HaveWords es → slice_get es n ≡ Some e → new ≡ set es n (record e { count = min (e.count + 1) greatest }) → HaveWords new
words_again es new n e w there is =
    let e' : Entry = record e { count = min (e.count + 1) greatest } in
    let words = λ (x : Entry). x.word.items in
    let texts = λ (x : Entry). word_text x.request in
    ap (map words) is ∙ keep_map words es n e e' there refl ∙ w ∙ sym (ap (map texts) is ∙ keep_map texts es n e e' there refl)

keys_again : (es new : List Entry) (n : ℕ) (e : Entry) → slice_get es n ≡ Some e → new ≡ set es n (record e { count = min (e.count + 1) greatest }) → map entry_key new ≡ map entry_key es
keys_again es new n e there is = ap (map entry_key) is ∙ keep_map entry_key es n e (record e { count = min (e.count + 1) greatest }) there refl

-- an entry that is new
counted_new : (es new : List Entry) (e : Entry) (a : Asked) → HaveWords es
    → position (λ (k : List ℕ). bytes_eq k (asked_key a)) (map entry_key es) ≡ None → new ≡ es ++ e ∷ []
    → entry_data e ≡ record { item = a; count = 1 }
    → map entry_data new ≡ with_one asked_key (map entry_data es) a
counted_new es new e a w none is data_is =
    ap (map entry_data) is ∙ map-append entry_data es (e ∷ []) ∙ ap (λ (c : Counted Asked). map entry_data es ++ c ∷ []) data_is
    ∙ sym (behind_all asked_key (map entry_data es) a (place_in es (asked_key a) w ∙ none))

pub words_new : (es new : List Entry) (e : Entry) → HaveWords es → new ≡ es ++ e ∷ [] → e.word.items ≡ word_text e.request → HaveWords new
words_new es new e w is word =
    let words = λ (x : Entry). x.word.items in
    let texts = λ (x : Entry). word_text x.request in
    ap (map words) is ∙ map-append words es (e ∷ []) ∙ ap (λ (l : List (List ℕ)). l ++ e.word.items ∷ []) w ∙ ap (λ (x : List ℕ). map texts es ++ x ∷ []) word
    ∙ sym (ap (map texts) is ∙ map-append texts es (e ∷ []))

pub numbered_new : {Y S : Type 0} (numbers after : HashMap (Vec ℕ Y) ℕ S) (es new : List Entry) (e : Entry) (key : List ℕ)
    → AreNumbered numbers (map entry_key es) → AddsKey numbers key (length es) after → new ≡ es ++ e ∷ [] → entry_key e ≡ key
    → AreNumbered after (map entry_key new)
numbered_new numbers after es new e key numbered adds is key_is = λ other.
    let p : List ℕ → Bool = λ k. bytes_eq k other in
    let keys : List (List ℕ) = map entry_key es in
    adds other ∙ ap (λ (o : Option ℕ). option_or o (cond (bytes_eq other key) (Some (length es)) None)) (numbered other)
    ∙ ap (λ (b : Bool). option_or (position p keys) (cond b (Some (length es)) None)) (eq_sym other key)
    ∙ ap (λ (m : ℕ). option_or (position p keys) (cond (p key) (Some m) None)) (sym (length-map es entry_key))
    ∙ sym (position_push p keys key)
    ∙ ap (λ (k : List ℕ). position p (keys ++ k ∷ [])) (sym key_is)
    ∙ ap (position p) (sym (ap (map entry_key) is ∙ map-append entry_key es (e ∷ [])))

module _ {Y S : Type 0} where
  -- a request that is an entry already
  pub found_again : (before : List Asked) (es new : List Entry) (numbers : HashMap (Vec ℕ Y) ℕ S) (number : ℕ) (a : Asked) (key : List ℕ) → key ≡ asked_key a → get_by (λ k. bytes_eq key k.items) numbers ≡ Some number
      → ((e : Entry) → slice_get es number ≡ Some e → new ≡ set es number (record e { count = min (e.count + 1) greatest })) → AreFound before es numbers → AreFound (before ++ a ∷ []) new numbers
  found_again before es new numbers number a key key_is found again f =
      let place : position (λ (k : List ℕ). bytes_eq k key) (map entry_key es) ≡ Some number = sym (f.numbered key) ∙ found in
      let within = position-Some (λ (k : List ℕ). bytes_eq k key) (map entry_key es) number [] place in
      let there = there_is es number (omega (arith, within.0, length-map es entry_key)) in
      let is = again there.element there.is in record {
        counts = counted_again es new number there.element a f.words (ap (λ (l : List ℕ). position (λ (k : List ℕ). bytes_eq k l) (map entry_key es)) (sym key_is) ∙ place) there.is is
            ∙ ap (λ (cs : List (Counted Asked)). with_one asked_key cs a) f.counts ∙ sym (counted-more asked_key before a);
        words = words_again es new number there.element f.words there.is is;
        numbered = λ other. f.numbered other ∙ ap (position (λ (k : List ℕ). bytes_eq k other)) (sym (keys_again es new number there.element there.is is));
        within = (let same : length new ≡ length es = ap length is ∙ length-set es number (record (there.element) { count = min (there.element.count + 1) greatest }) in omega (arith, same, f.within));
      }

  -- a request that is none yet
  pub found_new : (before : List Asked) (es new : List Entry) (numbers after : HashMap (Vec ℕ Y) ℕ S) (e : Entry) (a : Asked) (key : List ℕ)
      → key ≡ asked_key a → get_by (λ k. bytes_eq key k.items) numbers ≡ None → AddsKey numbers key (length es) after → length es < 1000000
      → new ≡ es ++ e ∷ [] → entry_data e ≡ record { item = a; count = 1 } → e.word.items ≡ word_text e.request → entry_key e ≡ key → AreFound before es numbers → AreFound (before ++ a ∷ []) new after
  found_new before es new numbers after e a key key_is none adds room is data_is word entry_is f =
      let nowhere : position (λ (k : List ℕ). bytes_eq k (asked_key a)) (map entry_key es) ≡ None = ap
      (λ (l : List ℕ). position (λ (k : List ℕ). bytes_eq k l) (map entry_key es)) (sym key_is) ∙ sym (f.numbered key) ∙ none in record {
        counts = counted_new es new e a f.words nowhere is data_is ∙ ap (λ (cs : List (Counted Asked)). with_one asked_key cs a) f.counts ∙ sym (counted-more asked_key before a);
        words = words_new es new e f.words is word;
        numbered = numbered_new numbers after es new e key f.numbered adds is entry_is;
        within = (let longer : length new ≡ length es + 1 = ap length is ∙ length-append es (e ∷ []) in omega (arith, longer));
      }

  -- a request that would be one too many
  pub too_many : (before : List Asked) (es : List Entry) (numbers : HashMap (Vec ℕ Y) ℕ S) (a : Asked) (key : List ℕ) → key ≡ asked_key a
      → get_by (λ k. bytes_eq key k.items) numbers ≡ None → 1000000 ≤ length es → AreFound before es numbers
      → 1000000 < length (firsts asked_key (before ++ a ∷ []))
  too_many before es numbers a key key_is none full f =
      let nowhere : position (λ (k : List ℕ). bytes_eq k (asked_key a)) (map entry_key es) ≡ None = ap (λ (l : List ℕ). position (λ (k : List ℕ). bytes_eq k l) (map entry_key es)) (sym key_is) ∙ sym (f.numbered key) ∙ none in
      let all : counted asked_key (before ++ a ∷ []) ≡ map entry_data es ++ record { item = a; count = 1 } ∷ [] =
      counted-more asked_key before a ∙ ap (λ (cs : List (Counted Asked)). with_one asked_key cs a) (sym f.counts) ∙ behind_all asked_key (map entry_data es) a (place_in es (asked_key a) f.words ∙ nowhere) in
      let many : length (firsts asked_key (before ++ a ∷ [])) ≡ length es + 1 =
      sym (length-counted asked_key (before ++ a ∷ [])) ∙ ap length all ∙ length-append (map entry_data es) (record { item = a; count = 1 } ∷ []) ∙ ap (λ (n : ℕ). n + 1) (length-map es entry_data) in
      omega (arith, many)
