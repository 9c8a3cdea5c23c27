-- Parts of an audit line, each read as its words, and with no return in it.
use Rattle.std.proofs.Common.{◌≡◌, ℕ, ◌/◌, ◌%◌, Bool, true, false, not, ◌&&◌, ◌==◌, List, [], ◌∷◌, ◌++◌, cond, refl, sym, ◌∙◌, ap, append_assoc, codes, flat_map, nat_le, bit_and, true≢false}
use Rattle.std.specs.List.{list_all}
use Rattle.std.proofs.lemmas.Bool.{and_parts, and_from, le-leb}
use Rattle.aa_model.specs.declared.answer.NoteWord.{NoteWord}
use Rattle.aa_model.specs.declared.answer.NoteWord.TheVariants.{Denied, Allowed, Audit}
use Rattle.aa_base.specs.Hex.{hex_digit, hex_pair}
use Rattle.aa_base.specs.Values.{is_shown, quoted, value, letter, letters, mask}
use Rattle.aa_audit.specs.Keys.{key, denied_key}
use Rattle.aa_audit.specs.Lines.{word_text, head_text}
use Rattle.aa_logs.specs.Words.{WordData}
use Rattle.aa_round_trip_laws.proofs.Fields.{apart, all_append, all_by, ends, is_key, is_bare, is_unquoted, Reads, Stands, joined, nothing, key_stands, reads_first, reads_quoted, reads_bare, word_field, bare_field}
use Rattle.aa_round_trip_laws.proofs.Names.{named, reads_named}
use Rattle.aa_base.proofs.Digits.{digit_from_48}

-- a byte that is no return
abbrev pub stays : ℕ → Bool
stays b = not (b == 13)

-- a byte that can stand between quotes in a line
abbrev pub is_quotable : ℕ → Bool
is_quotable b = not (b == 34) && not (b == 13)

abbrev pub Part : List ℕ → List WordData → Type 0
Part xs ws = (list_all stays xs ≡ true) × Reads xs ws

pub part_joined : (xs ys : List ℕ) (ws vs : List WordData) → Part xs ws → Part ys vs → Stands ys → Part (xs ++ ys) (ws ++ vs)
part_joined xs ys ws vs p q s = (all_append stays xs ys p.0 q.0, joined xs ys ws vs p.1 q.1 s)

pub stands_joined : (xs ys : List ℕ) → Stands xs → Stands ys → Stands (xs ++ ys)
stands_joined xs ys s t more e = ap ends (append_assoc xs ys more) ∙ s (ys ++ more) (t more e)

pub part_nothing : Part [] []
part_nothing = (refl, nothing)

unquoted_of : (b : ℕ) → is_quotable b ≡ true → is_unquoted b ≡ true
unquoted_of b h = (and_parts (not (b == 34)) (not (b == 13)) h).0

stays_of : (b : ℕ) → is_quotable b ≡ true → stays b ≡ true
stays_of b h = (and_parts (not (b == 34)) (not (b == 13)) h).1

quoted_stays : (text : List ℕ) → list_all stays text ≡ true → list_all stays (quoted text) ≡ true
unfolding quoted
quoted_stays text h = all_append stays text (34 ∷ []) h refl

key_stays : (k v : List ℕ) → list_all stays k ≡ true → list_all stays v ≡ true → list_all stays (key k v) ≡ true
unfolding key
key_stays k v h g = all_append stays (codes " " ++ k ++ codes "=") v (all_append stays (codes " " ++ k) (codes "=") h refl) g

pub part_quoted : (k text : List ℕ) → is_key k ≡ true → list_all stays k ≡ true → list_all is_quotable text ≡ true → Part (key k (quoted text)) (word_field k text ∷ [])
part_quoted k text h g u =
    (key_stays k (quoted text) g (quoted_stays text (all_by stays is_quotable stays_of text u)), reads_quoted k text h (all_by is_unquoted is_quotable unquoted_of text u))

shown_stays : (b : ℕ) → is_shown b ≡ true → stays b ≡ true
shown_stays b h = ap not (apart is_shown b 13 h refl)

digit_stays : (n : ℕ) → stays (hex_digit n) ≡ true
digit_stays n = ap not (apart (nat_le 48) (hex_digit n) 13 (le-leb 48 (hex_digit n) (digit_from_48 n)) refl)

digits_stay : (bytes : List ℕ) → list_all stays (flat_map hex_pair bytes) ≡ true
digits_stay [] = refl
digits_stay (b ∷ bs) =
    and_from (stays (hex_digit (b / 16))) (stays (hex_digit (b % 16)) && list_all stays (flat_map hex_pair bs)) (digit_stays (b / 16))
    (and_from (stays (hex_digit (b % 16))) (list_all stays (flat_map hex_pair bs)) (digit_stays (b % 16)) (digits_stay bs))

value_stays_by : (t : Bool) (name : List ℕ) → list_all is_shown name ≡ t → list_all stays (cond t (quoted name) (flat_map hex_pair name)) ≡ true
value_stays_by true name e = quoted_stays name (all_by stays is_shown shown_stays name e)
value_stays_by false name e = digits_stay name

value_stays : (name : List ℕ) → list_all stays (value name) ≡ true
unfolding value
value_stays name = value_stays_by (list_all is_shown name) name refl

pub part_named : (k name : List ℕ) → is_key k ≡ true → list_all stays k ≡ true → Part (key k (value name)) (named k name ∷ [])
part_named k name h g = (key_stays k (value name) g (value_stays name), reads_named k name h)

-- a text that stands without quotes
abbrev pub is_bare_text : List ℕ → Bool
is_bare_text [] = false
is_bare_text (b ∷ bs) = list_all is_bare (b ∷ bs) && list_all stays (b ∷ bs)

pub part_bare : (k v : List ℕ) → is_key k ≡ true → list_all stays k ≡ true → is_bare_text v ≡ true → Part (key k v) (bare_field k v ∷ [])
part_bare k [] h g u = absurd (true≢false (sym u))
part_bare k (b ∷ bs) h g u =
    let both = and_parts (list_all is_bare (b ∷ bs)) (list_all stays (b ∷ bs)) u in
    (key_stays k (b ∷ bs) g both.1, reads_bare k b bs h both.0)

word_quotable : (word : NoteWord) → list_all is_quotable (word_text word) ≡ true
word_quotable Denied = refl
word_quotable Allowed = refl
word_quotable Audit = refl

-- the words that each line begins with
abbrev pub head_words : NoteWord → List ℕ → List ℕ → List WordData
head_words word operation profile = word_field (codes "apparmor") (word_text word) ∷ word_field (codes "operation") operation ∷ named (codes "profile") profile ∷ []

first_part : (word : NoteWord) → Part (codes "apparmor=" ++ quoted (word_text word)) (word_field (codes "apparmor") (word_text word) ∷ [])
first_part word = (
  all_append stays (codes "apparmor=") (quoted (word_text word)) refl (quoted_stays (word_text word) (all_by stays is_quotable stays_of (word_text word) (word_quotable word))),
  reads_first (codes "apparmor") (word_text word) refl (all_by is_unquoted is_quotable unquoted_of (word_text word) (word_quotable word)),
)

pub head_part : (word : NoteWord) (operation profile : List ℕ) → list_all is_quotable operation ≡ true → Part (head_text word operation profile) (head_words word operation profile)
unfolding head_text
head_part word operation profile h =
    let first = codes "apparmor=" ++ quoted (word_text word) in
    let second = key (codes "operation") (quoted operation) in
    let third = key (codes "profile") (value profile) in
    part_joined (first ++ second) third (word_field (codes "apparmor") (word_text word) ∷ word_field (codes "operation") operation ∷ []) (named (codes "profile") profile ∷ [])
    (part_joined first second (word_field (codes "apparmor") (word_text word) ∷ []) (word_field (codes "operation") operation ∷ []) (first_part word)
    (part_quoted (codes "operation") operation refl refl h) (key_stands (codes "operation") (quoted operation)))
    (part_named (codes "profile") profile refl refl) (key_stands (codes "profile") (value profile))

letter_quotable : (c : ℕ) (t : Bool) → is_quotable c ≡ true → list_all is_quotable (cond t (c ∷ []) []) ≡ true
letter_quotable c true h = and_from (is_quotable c) true h refl
letter_quotable c false h = refl

pub letters_quotable : (bits : ℕ) → list_all is_quotable (letters bits) ≡ true
unfolding letters
letters_quotable bits =
    let l : (n c : ℕ) → is_quotable c ≡ true → list_all is_quotable (letter bits n c) ≡ true = λ n c h. letter_quotable c (bit_and bits n == n) h in
    and_six (letter bits 1 114) (letter bits 2 119) (letter bits 4 97) (letter bits 8 108) (letter bits 16 107) (letter bits 32 109) (letter bits 64 120)
    (l 1 114 refl) (l 2 119 refl) (l 4 97 refl) (l 8 108 refl) (l 16 107 refl) (l 32 109 refl) (l 64 120 refl)
  where
    and_six : (a b c d e f g : List ℕ) → list_all is_quotable a ≡ true → list_all is_quotable b ≡ true → list_all is_quotable c ≡ true → list_all is_quotable d ≡ true
        → list_all is_quotable e ≡ true → list_all is_quotable f ≡ true → list_all is_quotable g ≡ true → list_all is_quotable (a ++ b ++ c ++ d ++ e ++ f ++ g) ≡ true
    and_six a b c d e f g ha hb hc hd he hf hg =
        all_append is_quotable (a ++ b ++ c ++ d ++ e ++ f) g
        (all_append is_quotable (a ++ b ++ c ++ d ++ e) f
        (all_append is_quotable (a ++ b ++ c ++ d) e
        (all_append is_quotable (a ++ b ++ c) d
        (all_append is_quotable (a ++ b) c (all_append is_quotable a b ha hb) hc) hd) he) hf) hg

pub part_mask : (k : List ℕ) (bits : ℕ) → is_key k ≡ true → list_all stays k ≡ true → Part (key k (mask bits)) (word_field k (letters bits) ∷ [])
part_mask k bits h g = part_quoted k (letters bits) h g (letters_quotable bits)

abbrev pub denied_words : NoteWord → ℕ → List WordData
denied_words Denied bits = word_field (codes "denied_mask") (letters bits) ∷ []
denied_words Allowed bits = word_field (codes "denied_mask") (letters bits) ∷ []
denied_words Audit bits = []

pub denied_part : (word : NoteWord) (bits : ℕ) → Part (denied_key word bits) (denied_words word bits)
denied_part Denied bits = part_mask (codes "denied_mask") bits refl refl
denied_part Allowed bits = part_mask (codes "denied_mask") bits refl refl
denied_part Audit bits = part_nothing

pub denied_stands : (word : NoteWord) (bits : ℕ) → Stands (denied_key word bits)
denied_stands Denied bits = key_stands (codes "denied_mask") (mask bits)
denied_stands Allowed bits = key_stands (codes "denied_mask") (mask bits)
denied_stands Audit bits = λ more e. e
