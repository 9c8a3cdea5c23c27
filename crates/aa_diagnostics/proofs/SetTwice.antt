-- Where a variable is set first, of one that is set twice.
use Rattle.std.proofs.Common.{◌≡◌, ℕ, List, [], ◌∷◌, ◌++◌, Bool, true, false, cond, Option, Some, None, refl, sym, ap, subst, ◌∙◌, append_assoc, eq-eqb}
use Rattle.std.specs.Prelude.{not, ◌==◌, ◌&&◌, ◌||◌, is_some, option_and_then}
use Rattle.std.specs.Option.{option_or}
use Rattle.std.specs.Str.{bytes_eq}
use Rattle.std.proofs.lemmas.List.{append-nil}
use Rattle.std.proofs.lemmas.List.Folds.{list_any-append}
use Rattle.std.proofs.lemmas.Option.{same_Some}
use Rattle.std.proofs.lemmas.Slice.Eq.{bytes_eq-Decides}
use Rattle.aa_base.specs.declared.fault.Spot.{Spot}
use Rattle.aa_glob.specs.Variables.{Variable, has_name, with_more}
use Rattle.aa_glob.specs.Expansions.{is_reserved}
use Rattle.aa_words.specs.Splits.{WordData}
use Rattle.aa_rules.specs.Grammar.{Many, spot_of}
use Rattle.aa_policy.specs.Preamble.{PreambleData, Assigns, Abi, AssignmentData, Assigning, Here, IsPreambleItem, IsTwice, is_variable_name, assigned, given, variables_after}
use Rattle.aa_policy.proofs.Preambles.{names_once}
use Rattle.aa_diagnostics.specs.Earlier.{same_spot, word_stands_at, sets, sets_next, set_first, set_before, set_again, first_set, IsSetFirst}
use Rattle.aa_diagnostics.proofs.Fronts.{written, Quiet, quiet_cut, IsFront, item_front, assigning_starts, items_start}

-- ---- tests

same_test : (x y : Bool) → (x ≡ true → y ≡ true) → (y ≡ true → x ≡ true) → x ≡ y
same_test true y f g = sym (f refl)
same_test false true f g = g refl
same_test false false f g = refl

pub and_false : (b : Bool) → (b && false) ≡ false
and_false true = refl
and_false false = refl

pub and_true : (b : Bool) → (b && true) ≡ b
and_true true = refl
and_true false = refl

-- two variables are written alike where their names are the same
same_written : (m n : List ℕ) → is_variable_name m ≡ true → is_variable_name n ≡ true → bytes_eq (written m) (written n) ≡ bytes_eq n m
same_written m n hm hn =
    same_test (bytes_eq (written m) (written n)) (bytes_eq n m)
    (λ e. (bytes_eq-Decides n m).1 (names_once (written n) n m (record { text_is = refl; is_name = hn }) (record { text_is = sym ((bytes_eq-Decides (written m) (written n)).0 e); is_name = hm })))
    (λ e. (bytes_eq-Decides (written m) (written n)).1 (ap written (sym ((bytes_eq-Decides n m).0 e))))

same_self : (s : Spot) → same_spot s s ≡ true
same_self s = ap (λ (b : Bool). b && (s.byte == s.byte)) (eq-eqb s.file s.file refl) ∙ eq-eqb s.byte s.byte refl

pub same_place : (s t : Spot) → s ≡ t → same_spot s t ≡ true
same_place s t e = ap (λ (u : Spot). same_spot s u) (sym e) ∙ same_self s

-- ---- words that set nothing

quiet_first : (text : List ℕ) (ws rest : List WordData) → Quiet ws rest → set_first text (ws ++ rest) ≡ set_first text rest
quiet_first text [] rest q = refl
quiet_first text (w ∷ ws) rest q =
    let test : (bytes_eq w.text text && sets_next (ws ++ rest)) ≡ false = ap (λ (b : Bool). bytes_eq w.text text && b) q.0 ∙ and_false (bytes_eq w.text text) in
    ap (λ (b : Bool). cond b (Some (spot_of w)) (set_first text (ws ++ rest))) test ∙ quiet_first text ws rest q.1

quiet_alone : (text : List ℕ) (ws rest : List WordData) → Quiet ws rest → set_first text ws ≡ None
quiet_alone text ws rest q = ap (set_first text) (sym (append-nil ws)) ∙ quiet_first text ws [] (quiet_cut ws rest q)

quiet_again : (at : Spot) (before ws rest : List WordData) → Quiet ws rest → set_again at before (ws ++ rest) ≡ set_again at (before ++ ws) rest
quiet_again at before [] rest q = ap (λ (l : List WordData). set_again at l rest) (sym (append-nil before))
quiet_again at before (w ∷ ws) rest q =
    let test : (word_stands_at at w && sets_next (ws ++ rest)) ≡ false = ap (λ (b : Bool). word_stands_at at w && b) q.0 ∙ and_false (word_stands_at at w) in
    ap (λ (b : Bool). option_or (cond b (set_first w.text before) None) (set_again at (before ++ w ∷ []) (ws ++ rest))) test
    ∙ quiet_again at (before ++ w ∷ []) ws rest q.1
    ∙ ap (λ (l : List WordData). set_again at l rest) (append_assoc before (w ∷ []) ws)

-- words behind words
first_both : (text : List ℕ) (xs ys : List WordData) → sets_next ys ≡ false → set_first text (xs ++ ys) ≡ option_or (set_first text xs) (set_first text ys)
first_both text [] ys e = refl
first_both text (w ∷ []) ys e = ap (λ (b : Bool). cond (bytes_eq w.text text && b) (Some (spot_of w)) (set_first text ys)) e ∙ by (bytes_eq w.text text)
  where
    by : (b : Bool) → cond (b && false) (Some (spot_of w)) (set_first text ys) ≡ option_or (cond (b && false) (Some (spot_of w)) None) (set_first text ys)
    by true = refl
    by false = refl
first_both text (w ∷ v ∷ ws) ys e = by (bytes_eq w.text text && sets v.kind) (first_both text (v ∷ ws) ys e)
  where
    by : (b : Bool) → set_first text ((v ∷ ws) ++ ys) ≡ option_or (set_first text (v ∷ ws)) (set_first text ys)
        → cond b (Some (spot_of w)) (set_first text ((v ∷ ws) ++ ys)) ≡ option_or (cond b (Some (spot_of w)) (set_first text (v ∷ ws))) (set_first text ys)
    by true h = refl
    by false h = h

items_both : (name : List ℕ) (xs ys : List PreambleData) → first_set name (xs ++ ys) ≡ option_or (first_set name xs) (first_set name ys)
items_both name [] ys = refl
items_both name (Abi ∷ xs) ys = items_both name xs ys
items_both name (Assigns a ∷ xs) ys = by (bytes_eq name a.name && not a.adds) (items_both name xs ys)
  where
    by : (b : Bool) → first_set name (xs ++ ys) ≡ option_or (first_set name xs) (first_set name ys)
        → cond b (Some a.at) (first_set name (xs ++ ys)) ≡ option_or (cond b (Some a.at) (first_set name xs)) (first_set name ys)
    by true h = refl
    by false h = h

-- ---- items so far

-- among the words before a variable is set first where it is among the items before, and the variables are those that are set
record Knows (before : List WordData) (done : List PreambleData) (vars : List Variable) : Type 0 where
  words : (name : List ℕ) → is_variable_name name ≡ true → set_first (written name) before ≡ first_set name done
  names : (name : List ℕ) → has_name name vars ≡ is_some (first_set name done)

-- what an item's words set is what the item sets
item_sets : (front : List WordData) (item : PreambleData) (rest : List WordData) (name : List ℕ) → is_variable_name name ≡ true → IsFront front item rest
    → set_first (written name) front ≡ first_set name (item ∷ [])
item_sets front Abi rest name n h = quiet_alone (written name) front rest h
item_sets front (Assigns a) rest name n h =
    let more = h.sign ∷ h.values in
    let test : (bytes_eq h.variable.text (written name) && sets h.sign.kind) ≡ (bytes_eq name a.name && not a.adds) =
    ap (λ (t : List ℕ). bytes_eq t (written name) && sets h.sign.kind) h.text ∙ ap (λ (b : Bool). b && sets h.sign.kind) (same_written a.name name h.named n)
    ∙ ap (λ (b : Bool). bytes_eq name a.name && b) h.sets_it in
    ap (set_first (written name)) h.are
    ∙ ap (λ (o : Option Spot). cond (bytes_eq h.variable.text (written name) && sets h.sign.kind) (Some (spot_of h.variable)) o) (quiet_alone (written name) more rest h.quiet)
    ∙ ap (λ (b : Bool). cond b (Some (spot_of h.variable)) None) test
    ∙ ap (λ (s : Spot). cond (bytes_eq name a.name && not a.adds) (Some s) None) h.stands

-- names that values are added to stay
more_names : (name n : List ℕ) (values : List (List ℕ)) (vars : List Variable) → has_name n (with_more name values vars) ≡ has_name n vars
unfolding with_more
more_names name n values [] = refl
more_names name n values (v ∷ vs) = by (bytes_eq name v.name) (more_names name n values vs)
  where
    by : (b : Bool) → has_name n (with_more name values vs) ≡ has_name n vs
        → has_name n (cond b (record { name = v.name; values = v.values ++ values } ∷ vs) (v ∷ with_more name values vs)) ≡ has_name n (v ∷ vs)
    by true h = refl
    by false h = ap (λ (b : Bool). bytes_eq n v.name || b) h

or_some : (b : Bool) (at : Spot) (o : Option Spot) → (is_some o || b) ≡ is_some (option_or o (cond b (Some at) None))
or_some true at (Some s) = refl
or_some false at (Some s) = refl
or_some true at None = refl
or_some false at None = refl

or_nothing : (o : Option Spot) → is_some o ≡ is_some (option_or o None)
or_nothing (Some s) = refl
or_nothing None = refl

pub or_false : (b : Bool) → (b || false) ≡ b
or_false true = refl
or_false false = refl

no_variables : (vars : List Variable) → None ≡ Some vars → ⊥
no_variables vars e = cc

-- what an assignment says of the variables behind it
record Gives (vars : List Variable) (a : AssignmentData) (more : List Variable) : Type 0 where
  fits : has_name a.name vars ≡ a.adds
  names : (n : List ℕ) → has_name n more ≡ (has_name n vars || (bytes_eq n a.name && not a.adds))

gives : (vars : List Variable) (a : AssignmentData) (more : List Variable) → assigned vars a ≡ Some more → Gives vars a more
unfolding assigned
gives vars a more e = by (is_reserved a.name) a.adds refl (has_name a.name vars) refl e
  where
    by : (r adds : Bool) → adds ≡ a.adds → (there : Bool) → there ≡ has_name a.name vars
        → cond r None (cond adds (cond there (Some (with_more a.name a.values vars)) None) (cond there None (Some (vars ++ record { name = a.name; values = a.values } ∷ [])))) ≡ Some more
        → Gives vars a more
    by true adds ea there et e = absurd (no_variables more e)
    by false true ea false et e = absurd (no_variables more e)
    by false false ea true et e = absurd (no_variables more e)
    by false true ea true et e = record {
      fits = sym et ∙ ea;
      names = λ n.
          ap (has_name n) (sym (same_Some (with_more a.name a.values vars) more e)) ∙ more_names a.name n a.values vars ∙ sym (or_false (has_name n vars))
          ∙ ap (λ (b : Bool). has_name n vars || b) (sym (and_false (bytes_eq n a.name)) ∙ ap (λ (b : Bool). bytes_eq n a.name && not b) ea);
    }
    by false false ea false et e = record {
      fits = sym et ∙ ea;
      names = λ n.
          ap (has_name n) (sym (same_Some (vars ++ record { name = a.name; values = a.values } ∷ []) more e))
          ∙ list_any-append (λ (v : Variable). bytes_eq n v.name) vars (record { name = a.name; values = a.values } ∷ [])
          ∙ ap (λ (b : Bool). has_name n vars || b) (or_false (bytes_eq n a.name) ∙ sym (and_true (bytes_eq n a.name)) ∙ ap (λ (b : Bool). bytes_eq n a.name && not b) ea);
    }

-- one item more
knows_words : (before front rest : List WordData) (done : List PreambleData) (item : PreambleData) → sets_next (front ++ rest) ≡ false → IsFront front item rest
    → ((name : List ℕ) → is_variable_name name ≡ true → set_first (written name) before ≡ first_set name done)
    → (name : List ℕ) → is_variable_name name ≡ true → set_first (written name) (before ++ front) ≡ first_set name (done ++ item ∷ [])
knows_words before front rest done item s h k name n =
    first_both (written name) before front (starts_alone front rest s)
    ∙ ap (λ (o : Option Spot). option_or o (set_first (written name) front)) (k name n)
    ∙ ap (λ (o : Option Spot). option_or (first_set name done) o) (item_sets front item rest name n h)
    ∙ sym (items_both name done (item ∷ []))
  where
    starts_alone : (ws rest : List WordData) → sets_next (ws ++ rest) ≡ false → sets_next ws ≡ false
    starts_alone [] rest e = refl
    starts_alone (w ∷ ws) rest e = e

knows_more : (before front rest : List WordData) (done : List PreambleData) (vars more : List Variable) (item : PreambleData) → sets_next (front ++ rest) ≡ false
    → IsFront front item rest → given vars item ≡ Some more → Knows before done vars → Knows (before ++ front) (done ++ item ∷ []) more
knows_more before front rest done vars more Abi s h e k = record {
  words = knows_words before front rest done Abi s h k.words;
  names = λ n. ap (has_name n) (sym (same_Some vars more e)) ∙ k.names n ∙ or_nothing (first_set n done) ∙ ap is_some (sym (items_both n done (Abi ∷ [])));
}
knows_more before front rest done vars more (Assigns a) s h e k = record {
  words = knows_words before front rest done (Assigns a) s h k.words;
  names = λ n.
      (gives vars a more e).names n ∙ ap (λ (b : Bool). b || (bytes_eq n a.name && not a.adds)) (k.names n)
      ∙ or_some (bytes_eq n a.name && not a.adds) a.at (first_set n done) ∙ ap is_some (sym (items_both n done (Assigns a ∷ [])));
}

none_of : (o : Option Spot) → is_some o ≡ false → o ≡ None
none_of (Some s) e = absurd cc
none_of None e = refl

-- no item sets again what items before it set
passes : (at : Spot) (before front rest : List WordData) (done : List PreambleData) (vars more : List Variable) (item : PreambleData)
    → IsFront front item rest → given vars item ≡ Some more → Knows before done vars → set_again at before (front ++ rest) ≡ set_again at (before ++ front) rest
passes at before front rest done vars more Abi h e k = quiet_again at before front rest h
passes at before front rest done vars more (Assigns a) h e k =
    let behind = h.sign ∷ h.values in
    let nothing : set_before at before h.variable (behind ++ rest) ≡ None = by (word_stands_at at h.variable) (sets h.sign.kind) a.adds h.sets_it refl in
    ap (λ (l : List WordData). set_again at before (l ++ rest)) h.are
    ∙ ap (λ (o : Option Spot). option_or o (set_again at (before ++ h.variable ∷ []) (behind ++ rest))) nothing
    ∙ quiet_again at (before ++ h.variable ∷ []) behind rest h.quiet
    ∙ ap (λ (l : List WordData). set_again at l rest) (append_assoc before (h.variable ∷ []) behind ∙ ap (λ (l : List WordData). before ++ l) (sym h.are))
  where
    by : (stands sign adds : Bool) → sign ≡ not adds → adds ≡ a.adds → cond (stands && sign) (set_first h.variable.text before) None ≡ None
    by false sign adds e f = refl
    by true false adds e f = refl
    by true true true s f = absurd cc
    by true true false s f =
        ap (λ (t : List ℕ). set_first t before) h.text ∙ k.words a.name h.named ∙ none_of (first_set a.name done) (sym (k.names a.name) ∙ (gives vars a more e).fits ∙ sym f)

-- ---- the whole

some_of : (o : Option Spot) → is_some o ≡ true → (s : Spot) × (o ≡ Some s)
some_of (Some s) e = (s, refl)
some_of None e = absurd cc

some_vars : (f : List Variable → Option (List Variable)) (o : Option (List Variable)) (y : List Variable) → option_and_then f o ≡ Some y → (m : List Variable) × (o ≡ Some m) × (f m ≡ Some y)
some_vars f (Some m) y e = (m, refl, e)
some_vars f None y e = absurd (no_variables y e)

-- at the assignment that sets a variable again
found_here : (at : Spot) (before ws : List WordData) (done : List PreambleData) (vars : List Variable) (name : List ℕ) (rest : List WordData)
    → Assigning ws at name false rest → has_name name vars ≡ true → Knows before done vars
    → (first : Spot) × (set_again at before ws ≡ Some first) × (first_set name done ≡ Some first)
found_here at before ws done vars name rest h there k =
    let first = some_of (first_set name done) (sym (k.names name) ∙ there) in
    let found : set_first h.variable.text before ≡ Some first.0 = ap (λ (t : List ℕ). set_first t before) h.names.text_is ∙ k.words name h.names.is_name ∙ first.1 in
    let stands : word_stands_at at h.variable ≡ true = same_place (spot_of h.variable) at (sym h.at_is) in
    let sign : sets_next h.after ≡ true = ap sets_next h.sign_stands.words ∙ ap sets h.sign_stands.kind_is in (
      first.0,
      ap (set_again at before) h.variable_stands.words
          ∙ ap (λ (b : Bool). option_or (cond (b && sets_next h.after) (set_first h.variable.text before) None) (set_again at (before ++ h.variable ∷ []) h.after)) stands
          ∙ ap (λ (b : Bool). option_or (cond b (set_first h.variable.text before) None) (set_again at (before ++ h.variable ∷ []) h.after)) sign
          ∙ ap (λ (o : Option Spot). option_or o (set_again at (before ++ h.variable ∷ []) h.after)) found,
      first.1,
    )

walk : (at : Spot) (before ws : List WordData) (done items : List PreambleData) (vars whole : List Variable) (after : List WordData) (name : List ℕ) (rest : List WordData)
    → Many IsPreambleItem Here ws items after → variables_after vars items ≡ Some whole → Assigning after at name false rest → has_name name whole ≡ true → Knows before done vars
    → (first : Spot) × (set_again at before ws ≡ Some first) × (first_set name (done ++ items) ≡ Some first)
walk at before ws done [] vars whole after name rest b e h there k =
    let found = found_here at before after done vars name rest h (ap (has_name name) (same_Some vars whole e) ∙ there) k in
    (found.0, ap (set_again at before) (sym b) ∙ found.1, ap (first_set name) (append-nil done) ∙ found.2)
walk at before ws done (x ∷ xs) vars whole after name rest b e h there k =
    let next = some_vars (λ (m : List Variable). variables_after m xs) (given vars x) whole e in
    let starts = items_start b.0 xs after b.2 (assigning_starts after at name false rest h) in
    let front = item_front ws x b.0 b.1 starts in
    let begins : sets_next (front.0 ++ b.0) ≡ false = ap sets_next (sym front.1) ∙ items_start ws (x ∷ xs) after b (assigning_starts after at name false rest h) in
    let more = knows_more before front.0 b.0 done vars next.0 x begins front.2 next.1 k in
    let found = walk at (before ++ front.0) b.0 (done ++ x ∷ []) xs next.0 whole after name rest b.2 next.2 h there more in (
      found.0,
      ap (set_again at before) front.1 ∙ passes at before front.0 b.0 done vars next.0 x front.2 next.1 k ∙ found.1,
      ap (first_set name) (sym (append_assoc done (x ∷ []) xs)) ∙ found.2,
    )

pub set_twice : (ws : List WordData) (at : Spot) (o : Option Spot) → o ≡ set_again at [] ws → IsTwice ws at → (first : Spot) × (o ≡ Some first) × IsSetFirst ws at first
set_twice ws at o e t =
    let m = t.misnames in
    let head : Assigning t.after at m.name false m.rest = subst (λ (b : Bool). Assigning t.after at m.name b m.rest) m.misfits.sign_is m.head in
    let found = walk at [] ws [] t.items [] t.vars t.after m.name m.rest t.before t.gives head m.misfits.there (record { words = λ name n. refl; names = λ name. refl }) in
    (found.0, e ∙ found.1, record { twice = t; is = found.2 })
