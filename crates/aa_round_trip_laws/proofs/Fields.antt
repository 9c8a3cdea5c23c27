-- One key of an audit line, read as a field.
use Rattle.std.proofs.Common.{◌≡◌, ℕ, suc, ◌+◌, ◌<◌, Bool, true, false, not, ◌&&◌, ◌||◌, ◌==◌, List, [], ◌∷◌, ◌++◌}
use Rattle.std.proofs.Common.{length, take, drop, cond, refl, sym, ◌∙◌, ap, arith, append_assoc, codes, Some, None, true≢false, nat_lt, position}
use Rattle.std.proofs.Common.{option_to_list}
use Rattle.std.specs.List.{list_all, prefix_len, position_or_len}
use Rattle.std.proofs.lemmas.Bool.{and_parts, and_from, or_from, false_from_ne_true, eqb-true, lt-ltb}
use Rattle.std.proofs.lemmas.List.{append-nil}
use Rattle.aa_base.specs.Values.{quoted}
use Rattle.aa_audit.specs.Keys.{key}
use Rattle.aa_logs.specs.declared.word.Form.TheVariants.{Quoted, Plain}
use Rattle.aa_logs.specs.Words.{WordData, PieceData, is_separator, begins_key, goes_on_key, key_len, run_len, keyed_piece, plain_piece, quoted_piece, field_piece, run_piece, first_piece, words_behind, words_of}
use Rattle.aa_logs.proofs.Pieces.{words_of-first, first_onward}
use Rattle.aa_notation.proofs.Splits.{take_front, drop_front, length_of}

-- two numbers that a test tells apart are two
pub apart : (p : ℕ → Bool) (b c : ℕ) → p b ≡ true → p c ≡ false → (b == c) ≡ false
apart p b c h k = false_from_ne_true (b == c) (λ e. true≢false (sym h ∙ (ap p (eqb-true b c e) ∙ k)))

module _ (p : ℕ → Bool) where
  up_to : (xs : List ℕ) (c : ℕ) (rest : List ℕ) → list_all p xs ≡ true → p c ≡ false → prefix_len p (xs ++ c ∷ rest) ≡ length xs
  up_to [] c rest h e = ap (λ (b : Bool). cond b (1 + prefix_len p rest) 0) e
  up_to (x ∷ xs) c rest h e =
      let both = and_parts (p x) (list_all p xs) h in
      ap (λ (b : Bool). cond b (1 + prefix_len p (xs ++ c ∷ rest)) 0) both.0 ∙ omega (arith, up_to xs c rest both.1 e)

  to_end : (xs : List ℕ) → list_all p xs ≡ true → prefix_len p (xs ++ []) ≡ length xs
  to_end [] h = refl
  to_end (x ∷ xs) h =
      let both = and_parts (p x) (list_all p xs) h in
      ap (λ (b : Bool). cond b (1 + prefix_len p (xs ++ [])) 0) both.0 ∙ omega (arith, to_end xs both.1)

  pub all_append : (xs ys : List ℕ) → list_all p xs ≡ true → list_all p ys ≡ true → list_all p (xs ++ ys) ≡ true
  all_append [] ys h k = k
  all_append (x ∷ xs) ys h k =
      let both = and_parts (p x) (list_all p xs) h in
      and_from (p x) (list_all p (xs ++ ys)) both.0 (all_append xs ys both.1 k)

  pub all_by : (q : ℕ → Bool) (f : (b : ℕ) → q b ≡ true → p b ≡ true) (xs : List ℕ) → list_all q xs ≡ true → list_all p xs ≡ true
  all_by q f [] h = refl
  all_by q f (x ∷ xs) h =
      let both = and_parts (q x) (list_all q xs) h in
      and_from (p x) (list_all p xs) (f x both.0) (all_by q f xs both.1)

-- behind a value the line ends, or a space follows
abbrev pub ends : List ℕ → Bool
ends [] = true
ends (b ∷ bs) = b == 32

abbrev pub is_key : List ℕ → Bool
is_key [] = false
is_key (b ∷ bs) = begins_key b && list_all goes_on_key bs

-- a byte of a value that stands without quotes
abbrev pub is_bare : ℕ → Bool
is_bare b = not (is_separator b) && not (b == 34) && not (b == 39)

abbrev pub is_unquoted : ℕ → Bool
is_unquoted b = not (b == 34)

key_is : (k rest : List ℕ) → is_key k ≡ true → key_len (k ++ 61 ∷ rest) ≡ length k
unfolding key_len
key_is [] rest h = absurd (true≢false (sym h))
key_is (b ∷ bs) rest h =
    let both = and_parts (begins_key b) (list_all goes_on_key bs) h in
    ap (λ (t : Bool). cond t (suc (prefix_len goes_on_key (bs ++ 61 ∷ rest))) 0) both.0 ∙ ap suc (up_to goes_on_key bs 61 rest both.1 refl)

not_apart : (b : ℕ) → begins_key b ≡ true → is_separator b ≡ false
not_apart b h =
    or_from (b == 32 || b == 9) (b == 29) (or_from (b == 32) (b == 9) (apart begins_key b 32 h refl) (apart begins_key b 9 h refl)) (apart begins_key b 29 h refl)

pub first_keyed : (k v : List ℕ) → is_key k ≡ true → first_piece (k ++ 61 ∷ v) ≡ field_piece k v
unfolding first_piece
first_keyed [] v h = absurd (true≢false (sym h))
first_keyed (b ∷ bs) v h =
    let both = and_parts (begins_key b) (list_all goes_on_key bs) h in
    let line = b ∷ (bs ++ 61 ∷ v) in
    ap (λ (t : Bool). cond t (record { bytes = 1; word = None }) (keyed_piece line (take (key_len line) line) (drop (key_len line) line))) (not_apart b both.0)
    ∙ (ap (λ (n : ℕ). keyed_piece line (take n line) (drop n line)) (key_is (b ∷ bs) v h)
    ∙ (ap (λ (t : List ℕ). keyed_piece line t (drop (length (b ∷ bs)) line)) (take_front (b ∷ bs) (61 ∷ v))
    ∙ (ap (λ (t : List ℕ). keyed_piece line (b ∷ bs) t) (drop_front (b ∷ bs) (61 ∷ v))
    ∙ ap (λ (t : Bool). cond (t && 61 == 61) (field_piece (b ∷ bs) v) (run_piece line)) (lt-ltb 0 (length (b ∷ bs)) (omega arith)))))

-- a field by its key is a word, and the rest is read as it stands
words_keyed : (k v rest : List ℕ) (w : WordData) (n : ℕ) → is_key k ≡ true → field_piece k v ≡ record { bytes = n; word = Some w } → drop n (k ++ 61 ∷ v) ≡ rest
    → words_of (k ++ 61 ∷ v) ≡ w ∷ words_of rest
words_keyed k v rest w n h e d =
    let line = k ++ 61 ∷ v in
    let long : 0 < length line = omega (arith, length_of k (61 ∷ v)) in
    words_of-first line long (first_onward line long)
    ∙ (ap (λ (p : PieceData). option_to_list p.word ++ words_of (drop p.bytes line)) (first_keyed k v h ∙ e)
    ∙ ap (λ (t : List ℕ). w ∷ words_of t) d)

-- a space stands between words
spaced : (line : List ℕ) → words_of (32 ∷ line) ≡ words_of line
unfolding words_behind first_piece
spaced line = refl

drop_by : (n : ℕ) (xs ys : List ℕ) → n ≡ length xs → drop n (xs ++ ys) ≡ ys
drop_by n xs ys e = ap (λ (m : ℕ). drop m (xs ++ ys)) e ∙ drop_front xs ys

abbrev pub word_field : List ℕ → List ℕ → WordData
word_field k text = record { form = Quoted; key = k; text = text }

abbrev pub bare_field : List ℕ → List ℕ → WordData
bare_field k text = record { form = Plain; key = k; text = text }

quote_there : (text more : List ℕ) → list_all is_unquoted text ≡ true → position (λ c. c == 34) (text ++ 34 ∷ more) ≡ Some (length text)
quote_there text more h =
    let at : position_or_len (λ c. c == 34) (text ++ 34 ∷ more) ≡ length text = up_to is_unquoted text 34 more h refl in
    let within : length text < length (text ++ 34 ∷ more) = omega (arith, length_of text (34 ∷ more)) in
    ap (λ (n : ℕ). cond (nat_lt n (length (text ++ 34 ∷ more))) (Some n) None) at
    ∙ ap (λ (b : Bool). cond b (Some (length text)) None) (lt-ltb (length text) (length (text ++ 34 ∷ more)) within)

quoted_field : (k text more : List ℕ) → list_all is_unquoted text ≡ true → field_piece k (34 ∷ (text ++ 34 ∷ more)) ≡ record { bytes = length k + length text + 3; word = Some (word_field k text) }
unfolding field_piece
quoted_field k text more h =
    ap (quoted_piece k (34 ∷ (text ++ 34 ∷ more))) (quote_there text more h)
    ∙ ap (λ (t : List ℕ). record { bytes = length k + length text + 3; word = Some (word_field k t) }) (take_front text (34 ∷ more))

quoted_front : (k text more : List ℕ) → (k ++ 61 ∷ 34 ∷ (text ++ 34 ∷ [])) ++ more ≡ k ++ 61 ∷ 34 ∷ (text ++ 34 ∷ more)
quoted_front k text more = append_assoc k (61 ∷ 34 ∷ (text ++ 34 ∷ [])) more ∙ ap (λ (t : List ℕ). k ++ 61 ∷ 34 ∷ t) (append_assoc text (34 ∷ []) more)

quoted_dropped : (k text more : List ℕ) → drop (length k + length text + 3) (k ++ 61 ∷ 34 ∷ (text ++ 34 ∷ more)) ≡ more
quoted_dropped k text more =
    let long : length k + length text + 3 ≡ length (k ++ 61 ∷ 34 ∷ (text ++ 34 ∷ [])) = omega (arith, length_of k (61 ∷ 34 ∷ (text ++ 34 ∷ [])), length_of text (34 ∷ [])) in
    ap (drop (length k + length text + 3)) (sym (quoted_front k text more)) ∙ drop_by (length k + length text + 3) (k ++ 61 ∷ 34 ∷ (text ++ 34 ∷ [])) more long

pub read_quoted : (k text more : List ℕ) → is_key k ≡ true → list_all is_unquoted text ≡ true → words_of (k ++ 61 ∷ (quoted text ++ more)) ≡ word_field k text ∷ words_of more
unfolding quoted
read_quoted k text more h u =
    ap (λ (t : List ℕ). words_of (k ++ 61 ∷ 34 ∷ t)) (append_assoc text (34 ∷ []) more)
    ∙ words_keyed k (34 ∷ (text ++ 34 ∷ more)) more (word_field k text) (length k + length text + 3) h (quoted_field k text more u) (quoted_dropped k text more)

bare_parts : (b : ℕ) → is_bare b ≡ true → (is_separator b ≡ false) × (((b == 34) ≡ false) × ((b == 39) ≡ false))
bare_parts b h = by (is_separator b) (b == 34) (b == 39) h
  where
    by : (x y z : Bool) → (not x && not y && not z) ≡ true → (x ≡ false) × ((y ≡ false) × (z ≡ false))
    by true y z e = absurd (true≢false (sym e))
    by false true z e = absurd (true≢false (sym e))
    by false false true e = absurd (true≢false (sym e))
    by false false false e = (refl, (refl, refl))

bare_run : (v more : List ℕ) → list_all is_bare v ≡ true → ends more ≡ true → run_len (v ++ more) ≡ length v
bare_run v [] h e = to_end (λ b. not (is_separator b)) v (all_by (λ b. not (is_separator b)) is_bare (λ b p. ap not (bare_parts b p).0) v h)
bare_run v (m ∷ ms) h e =
    let stops : not (is_separator m) ≡ false = ap (λ (c : ℕ). not (is_separator c)) (eqb-true m 32 e) in
    up_to (λ b. not (is_separator b)) v m ms (all_by (λ b. not (is_separator b)) is_bare (λ b p. ap not (bare_parts b p).0) v h) stops

bare_piece : (k : List ℕ) (b : ℕ) (bs more : List ℕ) → list_all is_bare (b ∷ bs) ≡ true → ends more ≡ true
    → field_piece k (b ∷ (bs ++ more)) ≡ record { bytes = length k + 1 + length (b ∷ bs); word = Some (bare_field k (b ∷ bs)) }
unfolding field_piece
bare_piece k b bs more h e =
    let value = b ∷ (bs ++ more) in
    let first = bare_parts b (and_parts (is_bare b) (list_all is_bare bs) h).0 in
    ap (λ (t : Bool). cond t (quoted_piece k value (position (λ c. c == 34) (bs ++ more))) (cond (b == 39) (record { bytes = length k + 2; word = None }) (plain_piece Plain k value))) first.1.0
    ∙ (ap (λ (t : Bool). cond t (record { bytes = length k + 2; word = None }) (plain_piece Plain k value)) first.1.1
    ∙ (ap (λ (n : ℕ). record { bytes = length k + 1 + n; word = Some (bare_field k (take n value)) }) (bare_run (b ∷ bs) more h e)
    ∙ ap (λ (t : List ℕ). record { bytes = length k + 1 + length (b ∷ bs); word = Some (bare_field k t) }) (take_front (b ∷ bs) more)))

bare_dropped : (k v more : List ℕ) → drop (length k + 1 + length v) (k ++ 61 ∷ (v ++ more)) ≡ more
bare_dropped k v more =
    let long : length k + 1 + length v ≡ length (k ++ 61 ∷ v) = omega (arith, length_of k (61 ∷ v)) in
    ap (drop (length k + 1 + length v)) (sym (append_assoc k (61 ∷ v) more)) ∙ drop_by (length k + 1 + length v) (k ++ 61 ∷ v) more long

pub read_bare : (k : List ℕ) (b : ℕ) (bs more : List ℕ) → is_key k ≡ true → list_all is_bare (b ∷ bs) ≡ true → ends more ≡ true
    → words_of (k ++ 61 ∷ (b ∷ (bs ++ more))) ≡ bare_field k (b ∷ bs) ∷ words_of more
read_bare k b bs more h u e =
    words_keyed k (b ∷ (bs ++ more)) more (bare_field k (b ∷ bs)) (length k + 1 + length (b ∷ bs)) h (bare_piece k b bs more u e) (bare_dropped k (b ∷ bs) more)

-- a part of a line is these words, whatever follows it behind a space
abbrev pub Reads : List ℕ → List WordData → Type 0
Reads xs ws = (more : List ℕ) → ends more ≡ true → words_of (xs ++ more) ≡ ws ++ words_of more

-- a part that stands behind a space, or is nothing
abbrev pub Stands : List ℕ → Type 0
Stands xs = (more : List ℕ) → ends more ≡ true → ends (xs ++ more) ≡ true

pub joined : (xs ys : List ℕ) (ws vs : List WordData) → Reads xs ws → Reads ys vs → Stands ys → Reads (xs ++ ys) (ws ++ vs)
joined xs ys ws vs r s p more e =
    ap words_of (append_assoc xs ys more)
    ∙ (r (ys ++ more) (p more e)
    ∙ (ap (λ (t : List WordData). ws ++ t) (s more e)
    ∙ sym (append_assoc ws vs (words_of more))))

pub nothing : Reads [] []
nothing more e = refl

pub whole : (xs : List ℕ) (ws : List WordData) → Reads xs ws → words_of xs ≡ ws
unfolding words_behind
whole xs ws r = ap words_of (sym (append-nil xs)) ∙ (r [] refl ∙ append-nil ws)

pub key_more : (k v more : List ℕ) → key k v ++ more ≡ 32 ∷ (k ++ 61 ∷ (v ++ more))
unfolding key
key_more k v more = append_assoc (codes " " ++ k ++ codes "=") v more ∙ append_assoc (32 ∷ k) (61 ∷ []) (v ++ more)

pub key_stands : (k v : List ℕ) → Stands (key k v)
unfolding key
key_stands k v more e = refl

pub reads_quoted : (k text : List ℕ) → is_key k ≡ true → list_all is_unquoted text ≡ true → Reads (key k (quoted text)) (word_field k text ∷ [])
reads_quoted k text h u more e = ap words_of (key_more k (quoted text) more) ∙ (spaced (k ++ 61 ∷ (quoted text ++ more)) ∙ read_quoted k text more h u)

pub reads_bare : (k : List ℕ) (b : ℕ) (bs : List ℕ) → is_key k ≡ true → list_all is_bare (b ∷ bs) ≡ true → Reads (key k (b ∷ bs)) (bare_field k (b ∷ bs) ∷ [])
reads_bare k b bs h u more e = ap words_of (key_more k (b ∷ bs) more) ∙ (spaced (k ++ 61 ∷ (b ∷ (bs ++ more))) ∙ read_bare k b bs more h u e)

-- the first key of a line stands behind no space
pub reads_first : (k text : List ℕ) → is_key k ≡ true → list_all is_unquoted text ≡ true → Reads ((k ++ 61 ∷ []) ++ quoted text) (word_field k text ∷ [])
reads_first k text h u more e =
    ap words_of (append_assoc (k ++ 61 ∷ []) (quoted text) more ∙ append_assoc k (61 ∷ []) (quoted text ++ more)) ∙ read_quoted k text more h u
