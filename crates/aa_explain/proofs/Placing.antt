-- Elements that are read one after another, and the places that they add.
use Rattle.std.proofs.Common.{◌≡◌, ℕ, ◌<◌, ◌≤◌, ◌+◌, ◌-◌, arith, drop, length, get_or, List, [], ◌∷◌, ◌++◌, map, flat_map, Option, Some, refl, sym, ap, subst, ◌∙◌, append_assoc}
use Rattle.std.specs.Prelude.{IsSome}
use Rattle.std.specs.List.{slice_range}
use Rattle.std.proofs.lemmas.List.Folds.{drop_split}
use Rattle.std.proofs.lemmas.Grind.{flat_map-append}
use Rattle.std.proofs.lemmas.List.{append-nil, map-append, get_or_default}
use Rattle.std.proofs.lemmas.List.Concat.{flat_map-cons}
use Rattle.aa_base.specs.declared.fault.Spot.{Spot}
use Rattle.aa_words.specs.declared.word.Word.{Word}
use Rattle.aa_words.specs.Splits.{WordData, word_data, words_data}
use Rattle.aa_rules.specs.Grammar.{Production, Ending, Many, spot_of}
use Rattle.aa_rules.specs.Reading.{rest_of}
use Rattle.aa_rules.proofs.Places.{here}
use Rattle.aa_policy.specs.Bodies.{if_any}
use Rattle.aa_explain.specs.declared.places.Extent.{Extent}
use Rattle.aa_explain.specs.Heads.{first_spot}
use Rattle.aa_explain.specs.Places.{PlacedRule, PlacedFamily, PlacesData, family_row, with_rules, if_file, if_cap, if_net, if_change, if_passed_over, EndsAt}

-- ---- elements

-- behind what is found the rest goes on
pub record Goes {X : Type 0} (Is : Production X) (Ends : Ending) (ws : List WordData) (found : List X) (rest : List WordData) : Type 0 where
  pub on : (xs : List X) (end : List WordData) → Many Is Ends rest xs end → Many Is Ends ws (found ++ xs) end

pub goes_start : {X : Type 0} (Is : Production X) (Ends : Ending) (ws : List WordData) → Goes Is Ends ws [] ws
goes_start Is Ends ws = record { on = λ xs end b. b }

pub goes_next : {X : Type 0} (Is : Production X) (Ends : Ending) (ws : List WordData) (found : List X) (rest : List WordData) (x : X) (after : List WordData)
    → Is rest x after → Goes Is Ends ws found rest → Goes Is Ends ws (found ++ x ∷ []) after
goes_next Is Ends ws found rest x after h goes = record { on = λ xs end b. rw append_assoc (goes.on (x ∷ xs) end (after, h, b)) }

pub goes_end : {X : Type 0} (Is : Production X) (Ends : Ending) (ws : List WordData) (found : List X) (rest after : List WordData)
    → Ends rest after → Goes Is Ends ws found rest → Many Is Ends ws found after
goes_end Is Ends ws found rest after h goes = rw (← append-nil found) (goes.on [] after h)

-- ---- places

-- the first of the words from a place on is the word there
pub stands_first : (words : List Word) (at : ℕ) (d : Word) → at < length words → first_spot (rest_of words at) ≡ Some (spot_of (word_data (get_or words at d)))
stands_first words at d h = ap first_spot (here words at (get_or words at d) h (get_or_default words at d (get_or words at d) h))

-- the words up to a place are those before the word before it, that word, and the rest
pub split_before : (words : List Word) (at next : ℕ) (d : Word) → at < next → next ≤ length words
    → rest_of words at ≡ words_data (slice_range words at (next - 1)) ++ word_data (get_or words (next - 1) d) ∷ rest_of words next
split_before words at next d h k =
    let front : List Word = slice_range words at (next - 1) in
    let w : Word = get_or words (next - 1) d in
    let within : next - 1 < length words = omega (arith, h, k) in
    let last : next - 1 + 1 ≡ next = omega (arith, h) in
    ap words_data (drop_split words at (next - 1) (omega (arith, h))) ∙ map-append word_data front (drop (next - 1) words)
    ∙ ap (λ (l : List WordData). words_data front ++ l)
    (here words (next - 1) w within (get_or_default words (next - 1) d w within) ∙ ap (λ (n : ℕ). word_data w ∷ rest_of words n) last)

-- and the last of them is the word before that
pub ends_at : (words : List Word) (at next : ℕ) (d : Word) → at < next → next ≤ length words
    → EndsAt (rest_of words at) (get_or words (next - 1) d).span.end (rest_of words next)
ends_at words at next d h k = record {
  front = words_data (slice_range words at (next - 1));
  last = word_data (get_or words (next - 1) d);
  words = split_before words at next d h k;
  ends = refl;
}

joined_lists : {X A : Type 0} (f : X → List A) (old : List A) (xs ys : List X) → (old ++ flat_map f xs) ++ flat_map f ys ≡ old ++ flat_map f (xs ++ ys)
joined_lists {X} {A} f old xs ys = append_assoc old (flat_map f xs) (flat_map f ys) ∙ ap (λ (l : List A). old ++ l) (sym (flat_map-append f xs ys))

abbrev placed : Spot → Extent → List Extent → List Spot → List Spot → List Spot → List Spot → List Extent → PlacesData
placed at head flags files caps nets changes passed_over =
    record { at = at; head = head; flags = flags; files = files; caps = caps; nets = nets; changes = changes; passed_over = passed_over }

same_places : (at : Spot) (o : Extent) (p : List Extent) (a b c d w x y z : List Spot) (m n : List Extent)
    → a ≡ w → b ≡ x → c ≡ y → d ≡ z → m ≡ n → placed at o p a b c d m ≡ placed at o p w x y z n
same_places at o p a b c d w x y z m n e f g h i =
    ap (λ (l : List Spot). placed at o p l b c d m) e ∙ ap (λ (l : List Spot). placed at o p w l c d m) f ∙ ap (λ (l : List Spot). placed at o p w x l d m) g
    ∙ ap (λ (l : List Spot). placed at o p w x y l m) h ∙ ap (placed at o p w x y z) i

-- no rule adds nothing
pub with_none : (p : PlacesData) → p ≡ with_rules p []
unfolding with_rules
with_none p = sym (same_places p.at p.head p.flags _ _ _ _ p.files p.caps p.nets p.changes _ p.passed_over
    (append-nil p.files) (append-nil p.caps) (append-nil p.nets) (append-nil p.changes) (append-nil p.passed_over))

-- rules behind rules
pub with_both : (p : PlacesData) (rs ss : List PlacedRule) → with_rules (with_rules p rs) ss ≡ with_rules p (rs ++ ss)
unfolding with_rules
with_both p rs ss = same_places p.at p.head p.flags _ _ _ _ _ _ _ _ _ _
    (joined_lists (λ (r : PlacedRule). if_file r.at r.rule) p.files rs ss) (joined_lists (λ (r : PlacedRule). if_cap r.at r.rule) p.caps rs ss)
    (joined_lists (λ (r : PlacedRule). if_net r.at r.rule) p.nets rs ss) (joined_lists (λ (r : PlacedRule). if_change r.at r.rule) p.changes rs ss)
    (joined_lists (λ (r : PlacedRule). if_passed_over r.at r.end r.rule) p.passed_over rs ss)

one_more : {X A : Type 0} (f : X → List A) (xs : List X) (x : X) → flat_map f xs ++ f x ≡ flat_map f (xs ++ x ∷ [])
one_more f xs x = ap (λ l. flat_map f xs ++ l) (sym (flat_map-cons f x [] ∙ append-nil (f x))) ∙ sym (flat_map-append f xs (x ∷ []))

-- what elements add to a profile's places, and what one more adds
pub placed_more : {X : Type 0} (f : X → List PlacedRule) (first old new : PlacesData) (xs : List X) (x : X)
    → new ≡ with_rules old (f x) → old ≡ with_rules first (flat_map f xs) → new ≡ with_rules first (flat_map f (xs ++ x ∷ []))
placed_more f first old new xs x n o =
    n ∙ ap (λ (p : PlacesData). with_rules p (f x)) o ∙ with_both first (flat_map f xs) (f x) ∙ ap (λ (rs : List PlacedRule). with_rules first rs) (one_more f xs x)

-- and to a list
pub listed_more : {X A B : Type 0} (g : A → B) (f : X → List A) (first old new : List B) (xs : List X) (x : X)
    → new ≡ old ++ map g (f x) → old ≡ first ++ map g (flat_map f xs) → new ≡ first ++ map g (flat_map f (xs ++ x ∷ []))
listed_more g f first old new xs x n o =
    n ∙ ap (λ l. l ++ map g (f x)) o ∙ append_assoc first (map g (flat_map f xs)) (map g (f x))
    ∙ ap (λ l. first ++ l) (sym (map-append g (flat_map f xs) (f x)) ∙ ap (map g) (one_more f xs x))

-- the profiles of items, one item's behind the other's
pub rows_of_items : (items : List (Option PlacedFamily)) → flat_map (λ i. flat_map family_row (if_any i)) items ≡ flat_map family_row (flat_map if_any items)
rows_of_items [] = refl
rows_of_items (i ∷ is) = ap (λ l. flat_map family_row (if_any i) ++ l) (rows_of_items is) ∙ sym (flat_map-append family_row (if_any i) (flat_map if_any is))

pub some_is : {X : Type 0} (o : Option X) (x : X) → o ≡ Some x → IsSome o
some_is {X} o x e = subst (λ (p : Option X). IsSome p) (sym e) (let t : IsSome (Some x) = refl in t)

-- the profiles of one top-level profile alone
pub one_row : (f : PlacedFamily) → flat_map family_row (f ∷ []) ≡ family_row f
one_row f = flat_map-cons family_row f [] ∙ append-nil (family_row f)

pub both_same : {X : Type 0} (a b : X) (xs ys : List X) → a ≡ b → xs ≡ ys → a ∷ xs ≡ b ∷ ys
both_same {X} a b xs ys e f = ap (λ (x : X). x ∷ xs) e ∙ ap (λ (l : List X). b ∷ l) f
