-- Words by the places of their keys.
use Rattle.std.proofs.Common.{◌≡◌, ℕ, zero, suc, ◌+◌, ◌<◌, ◌≤◌, Bool, true, false}
use Rattle.std.proofs.Common.{cond, List, [], ◌∷◌, ◌++◌, length, get_or, set}
use Rattle.std.proofs.Common.{Option, Some, None, refl, sym, ◌∙◌, ap, subst, inl, inr, arith}
use Rattle.std.specs.Prelude.{find, option_map, nat_eq, replicate}
use Rattle.std.specs.List.{slice_get}
use Rattle.std.specs.Str.{bytes_eq}
use Rattle.std.proofs.lemmas.Bool.{cases_Bool, eqb-true, eqb-false}
use Rattle.std.proofs.lemmas.List.{length-append, length-map, map-append, reverse-append}
use Rattle.std.proofs.lemmas.List.{get_or_append_left, get_or-append-add, get_or-set_other, get_or-replicate}
use Rattle.std.proofs.lemmas.Grind.{get_or-set_at}
use Rattle.std.proofs.lemmas.Option.{slice_get-get_or, slice_get-map}
use Rattle.std.proofs.lemmas.Slice.Eq.{bytes_eq-Decides}
use Rattle.aa_logs.specs.declared.key.Key.{Key}
use Rattle.aa_logs.specs.declared.key.Key.TheVariants.{Apparmor, Kind, Profile, Label, Namespace, Pid, Operation, Info, Class}
use Rattle.aa_logs.specs.declared.key.Key.TheVariants.{RequestedMask, Fsuid, Ouid, Capname, Name, Target, Name2, Family, SockType}
use Rattle.aa_logs.specs.declared.word.LogWord.{LogWord}
use Rattle.aa_logs.specs.Words.{WordData, word_data, words_data}
use Rattle.aa_logs.specs.Fields.{field_in}
use Rattle.aa_logs.specs.Keys.{key_name, number, keys_of, key_of, word_at, placed, IsPlaced}

-- each key is the one that is spelled so
key_spelled : (k : Key) → key_of (key_name k) ≡ Some k
unfolding key_of
key_spelled Apparmor = refl
key_spelled Kind = refl
key_spelled Profile = refl
key_spelled Label = refl
key_spelled Namespace = refl
key_spelled Pid = refl
key_spelled Operation = refl
key_spelled Info = refl
key_spelled Class = refl
key_spelled RequestedMask = refl
key_spelled Fsuid = refl
key_spelled Ouid = refl
key_spelled Capname = refl
key_spelled Name = refl
key_spelled Target = refl
key_spelled Name2 = refl
key_spelled Family = refl
key_spelled SockType = refl

number_within : (k : Key) → number k < 18
number_within Apparmor = omega arith
number_within Kind = omega arith
number_within Profile = omega arith
number_within Label = omega arith
number_within Namespace = omega arith
number_within Pid = omega arith
number_within Operation = omega arith
number_within Info = omega arith
number_within Class = omega arith
number_within RequestedMask = omega arith
number_within Fsuid = omega arith
number_within Ouid = omega arith
number_within Capname = omega arith
number_within Name = omega arith
number_within Target = omega arith
number_within Name2 = omega arith
number_within Family = omega arith
number_within SockType = omega arith

-- the key of a number
key_at : ℕ → Key
key_at n =
    cond (nat_eq n 0) Apparmor (
    cond (nat_eq n 1) Kind (
    cond (nat_eq n 2) Profile (
    cond (nat_eq n 3) Label (
    cond (nat_eq n 4) Namespace (
    cond (nat_eq n 5) Pid (
    cond (nat_eq n 6) Operation (
    cond (nat_eq n 7) Info (
    cond (nat_eq n 8) Class (
    cond (nat_eq n 9) RequestedMask (
    cond (nat_eq n 10) Fsuid (
    cond (nat_eq n 11) Ouid (
    cond (nat_eq n 12) Capname (
    cond (nat_eq n 13) Name (
    cond (nat_eq n 14) Target (
    cond (nat_eq n 15) Name2 (
    cond (nat_eq n 16) Family (
    SockType)))))))))))))))))

numbered : (k : Key) → key_at (number k) ≡ k
unfolding key_at
numbered Apparmor = refl
numbered Kind = refl
numbered Profile = refl
numbered Label = refl
numbered Namespace = refl
numbered Pid = refl
numbered Operation = refl
numbered Info = refl
numbered Class = refl
numbered RequestedMask = refl
numbered Fsuid = refl
numbered Ouid = refl
numbered Capname = refl
numbered Name = refl
numbered Target = refl
numbered Name2 = refl
numbered Family = refl
numbered SockType = refl

-- two keys of one number are one
same_key : (j k : Key) → number k ≡ number j → k ≡ j
same_key j k e = sym (numbered k) ∙ ap key_at e ∙ numbered j

found_is : {A : Type 0} (p : A → Bool) (xs : List A) (x : A) → find p xs ≡ Some x → p x ≡ true
found_is p [] x e = absurd (cc e)
found_is p (y ∷ ys) x e = elim (cases_Bool (p y)) [
  | inl is ↦ (let first : Some y ≡ Some x = sym (ap (λ (b : Bool). cond b (Some y) (find p ys)) is) ∙ e in subst (λ z. p z ≡ true) (cc first) is)
  | inr isnt ↦ found_is p ys x (sym (ap (λ (b : Bool). cond b (Some y) (find p ys)) isnt) ∙ e)
]

-- a text is spelled as its key is
spelled_so : (text : List ℕ) (k : Key) → key_of text ≡ Some k → bytes_eq text (key_name k) ≡ true
unfolding key_of
spelled_so text k e = found_is (λ k. bytes_eq text (key_name k)) (keys_of (length text)) k e

spelled_otherwise : (text : List ℕ) (k : Key) → (key_of text ≡ Some k → ⊥) → bytes_eq text (key_name k) ≡ false
spelled_otherwise text k unlike = elim (cases_Bool (bytes_eq text (key_name k))) [
  | inl is ↦ absurd (unlike (ap key_of ((bytes_eq-Decides text (key_name k)).0 is) ∙ key_spelled k))
  | inr isnt ↦ isnt
]

-- the last field with a key, once there is a word more
field_more : (key : List ℕ) (ws : List WordData) (w : WordData)
    → field_in key (ws ++ w ∷ []) ≡ cond (bytes_eq w.key key) (Some w) (field_in key ws)
unfolding field_in
field_more key ws w = ap (find (λ (v : WordData). bytes_eq v.key key)) (reverse-append ws (w ∷ []))

word_before : (ws : List WordData) (w : WordData) (n : ℕ) → n ≤ length ws → word_at (ws ++ w ∷ []) n ≡ word_at ws n
word_before ws w zero h = refl
word_before ws w (suc n) h =
    let longer : n < length (ws ++ w ∷ []) = omega (arith, h, length-append ws (w ∷ [])) in
    let within : n < length ws = omega (arith, h) in
    slice_get-get_or (ws ++ w ∷ []) n w longer ∙ ap Some (get_or_append_left ws (w ∷ []) w n within) ∙ sym (slice_get-get_or ws n w within)

word_behind : (ws : List WordData) (w : WordData) (n : ℕ) → n ≡ length ws + 1 → word_at (ws ++ w ∷ []) n ≡ Some w
word_behind ws w zero e = absurd (omega (arith, e))
word_behind ws w (suc n) e =
    let longer : n < length (ws ++ w ∷ []) = omega (arith, e, length-append ws (w ∷ [])) in
    let last : n ≡ length ws + 0 = omega (arith, e) in
    slice_get-get_or (ws ++ w ∷ []) n w longer ∙ ap Some (ap (λ (m : ℕ). get_or (ws ++ w ∷ []) m w) last ∙ get_or-append-add ws (w ∷ []) 0 w)

-- what is so of the place of a key
IsPlace : List WordData → ℕ → Key → Type 0
IsPlace ws at k = (at ≤ length ws) × (word_at ws at ≡ field_in (key_name k) ws)

place_before : (ws : List WordData) (w : WordData) (at : ℕ) (k : Key) → bytes_eq w.key (key_name k) ≡ false
    → at ≤ length ws → word_at ws at ≡ field_in (key_name k) ws → IsPlace (ws ++ w ∷ []) at k
unfolding IsPlace
place_before ws w at k unlike within found = (
  omega (arith, within, length-append ws (w ∷ [])),
  word_before ws w at within ∙ found ∙ sym (field_more (key_name k) ws w ∙ ap (λ (b : Bool). cond b (Some w) (field_in (key_name k) ws)) unlike),
)

place_behind : (ws : List WordData) (w : WordData) (at : ℕ) (k : Key) → bytes_eq w.key (key_name k) ≡ true
    → at ≡ length ws + 1 → IsPlace (ws ++ w ∷ []) at k
unfolding IsPlace
place_behind ws w at k alike last = (
  omega (arith, last, length-append ws (w ∷ [])),
  word_behind ws w at last ∙ sym (field_more (key_name k) ws w ∙ ap (λ (b : Bool). cond b (Some w) (field_in (key_name k) ws)) alike),
)

are_placed : (places : List ℕ) (ws : List WordData) → ((k : Key) → IsPlace ws (get_or places (number k) 0) k) → IsPlaced places ws
unfolding IsPlace
are_placed places ws each = record { within = λ k. (each k).0; found = λ k. (each k).1 }

pushed_as : (o : Option Key) (places : List ℕ) (ws : List WordData) (w : WordData) (at : ℕ)
    → length places ≡ 18 → at ≡ length ws + 1 → key_of w.key ≡ o
    → IsPlaced places ws → IsPlaced (placed o at places) (ws ++ w ∷ [])
pushed_as None places ws w at many last is placed_before = are_placed places (ws ++ w ∷ []) (λ k.
    let unlike = spelled_otherwise w.key k (λ e. absurd (cc (sym is ∙ e))) in
    place_before ws w (get_or places (number k) 0) k unlike (placed_before.within k) (placed_before.found k))
pushed_as (Some j) places ws w at many last is placed_before = are_placed (set places (number j) at) (ws ++ w ∷ []) (λ k.
    elim (cases_Bool (nat_eq (number k) (number j))) [
      | inl e ↦ (let same = eqb-true (number k) (number j) e in
          let here : get_or (set places (number j) at) (number k) 0 ≡ at =
          get_or-set_at places (number j) (number k) at 0 same (omega (arith, many, number_within j)) in
          subst (λ (n : ℕ). IsPlace (ws ++ w ∷ []) n k) (sym here)
          (place_behind ws w at k (spelled_so w.key k (is ∙ ap Some (sym (same_key j k same)))) last))
      | inr e ↦ (let apart = eqb-false (number k) (number j) e in
          let there : get_or (set places (number j) at) (number k) 0 ≡ get_or places (number k) 0 =
          get_or-set_other places (number j) (number k) at 0 apart in
          let unlike = spelled_otherwise w.key k (λ f. apart (ap number (some_is k j (sym f ∙ is)))) in
          subst (λ (n : ℕ). IsPlace (ws ++ w ∷ []) n k) (sym there)
          (place_before ws w (get_or places (number k) 0) k unlike (placed_before.within k) (placed_before.found k)))
    ])
  where
    some_is : (a b : Key) → Some a ≡ Some b → a ≡ b
    some_is a b e = cc e

-- the places once there is a word more
pub pushed : (places new : List ℕ) (old more : List LogWord) (w : LogWord) (at : ℕ) (key : Option Key)
    → length places ≡ 18 → at ≡ length old + 1 → key ≡ key_of w.key.now
    → new ≡ placed key at places → more ≡ old ++ w ∷ [] → IsPlaced places (words_data old) → IsPlaced new (words_data more)
pushed places new old more w at key many last is new_is more_is placed_before =
    let ws = words_data old in
    let long : at ≡ length ws + 1 = last ∙ ap (λ (n : ℕ). n + 1) (sym (length-map old word_data)) in
    let there = pushed_as key places ws (word_data w) at many long (sym is) placed_before in
    let words : words_data more ≡ ws ++ word_data w ∷ [] = ap words_data more_is ∙ map-append word_data old (w ∷ []) in
    subst (λ (l : List ℕ). IsPlaced l (words_data more)) (sym new_is) (subst (IsPlaced (placed key at places)) (sym words) there)

-- the word of a place
pub placed_word : (ws : List LogWord) (n at : ℕ) (w : Option LogWord) (o : Option WordData)
    → n ≡ at + 1 → w ≡ slice_get ws at → word_at (words_data ws) n ≡ o → option_map word_data w ≡ o
placed_word ws zero at w o e get is = absurd (omega (arith, e))
placed_word ws (suc n) at w o e get is =
    let same : n ≡ at = omega (arith, e) in
    ap (option_map word_data) get ∙ sym (slice_get-map word_data ws at) ∙ ap (slice_get (words_data ws)) (sym same) ∙ is

-- no place where there is no word
pub none_placed : (places : List ℕ) (ws : List LogWord) → places ≡ replicate 18 0 → ws ≡ [] → IsPlaced places (words_data ws)
unfolding field_in IsPlace
none_placed places ws zeros empty =
    let none : (k : Key) → get_or (replicate 18 0) (number k) 0 ≡ 0 = λ k. get_or-replicate 18 (number k) 0 0 (number_within k) in
    let each : (k : Key) → IsPlace [] (get_or (replicate 18 0) (number k) 0) k = λ k.
    subst (λ (n : ℕ). IsPlace [] n k) (sym (none k)) (omega arith, refl) in
    subst (λ (l : List ℕ). IsPlaced l (words_data ws)) (sym zeros)
    (subst (λ (l : List LogWord). IsPlaced (replicate 18 0) (words_data l)) (sym empty) (are_placed (replicate 18 0) [] each))
