-- What lines ask can be asked.
use Rattle.std.proofs.Common.{◌≡◌, ℕ, zero, suc, ◌+◌, ◌-◌, ◌*◌, ◌<◌, Bool, true, false, not, ◌&&◌, ◌||◌, ◌==◌, nat_lt}
use Rattle.std.proofs.Common.{nat_eq, List, [], ◌∷◌, ◌++◌, length, take, drop, cond, codes, flat_map, Option, Some, None, refl, sym, ap, ◌∙◌}
use Rattle.std.proofs.Common.{arith, inl, inr, true≢false, lt-ltb}
use Rattle.std.specs.Prelude.{slice_get, find, reverse, option_map, option_to_list, Result, Ok, Err}
use Rattle.std.specs.List.{list_all, position, starts_with}
use Rattle.std.specs.Option.{option_and_then, option_or}
use Rattle.std.specs.Str.{bytes_eq}
use Rattle.std.proofs.lemmas.Bool.{cases_Bool, and_parts, and_from, agree_below_at, ltb-true}
use Rattle.std.proofs.lemmas.List.{reverse-append}
use Rattle.std.proofs.lemmas.List.Folds.{list_all-append}
use Rattle.std.proofs.lemmas.List.Concat.{flat_map-cons}
use Rattle.std.proofs.lemmas.List.Quantifiers.{position-Some}
use Rattle.aa_base.specs.Tables.{number_in as number_among, capability_names, family_names, sock_type_names}
use Rattle.aa_model.specs.Requests.{is_path, is_mask, is_wanted_name}
use Rattle.aa_model.specs.declared.request.Request.{Request}
use Rattle.aa_model.specs.declared.request.Request.TheVariants.{File, Link, Exec, Change}
use Rattle.aa_notation.specs.Parts.{are_bytes, is_path_of_bytes}
use Rattle.aa_notation.specs.Kinds.{is_askable}
use Rattle.aa_logs.specs.declared.word.Form.{Form}
use Rattle.aa_logs.specs.declared.word.Form.TheVariants.{Open, Plain}
use Rattle.aa_logs.specs.declared.line.Then.{Then}
use Rattle.aa_logs.specs.declared.line.Then.TheVariants as was
use Rattle.aa_logs.specs.declared.line.Reason.TheVariants.{Namespace, Stacked}
use Rattle.aa_logs.specs.Words.{WordData, is_separator, run_len, key_len, plain_piece, quoted_piece, field_piece, run_piece, keyed_piece, first_piece, words_behind, words_of}
use Rattle.aa_base.specs.Hex.{is_hex_digit, digit_of, bytes_of_hex, is_even, is_hex}
use Rattle.aa_logs.specs.Values.{is_plain, name_in}
use Rattle.aa_logs.specs.Fields.{field_in, raw_in, text_in}
use Rattle.aa_logs.specs.Asked.{Cause, Keyword, Because, cap_by, cap_in, exec_by, exec_in, link_by, link_in, change_by, change_in, socket_by, net_by}
use Rattle.aa_logs.specs.Asked.{masked_file, file_by, requested_by, object_by, object_in, by_operation, unless_over, of_operation, asked_in, owned_in}
use Rattle.aa_logs.specs.Asked.{passed_over, asked_mask, is_text_there, mask_owner}
use Rattle.aa_logs.specs.Outcomes.{RecordData, Outcome, Another, AsksNothing, AsksFor}
use Rattle.aa_logs.specs.Records.{is_record, told_by_word, told_by_type, is_one_of, is_old_type, word_tells, tells, told_in, is_broken, named_profile}
use Rattle.aa_logs.specs.Records.{profile_in, with_request, with_profile, by_told, record_by, record_in, outcome_by, without_return, outcome_of, line_in}
use Rattle.aa_logs.specs.Records.{is_return, holds_part, is_other_space}
use Rattle.aa_logs.specs.LogLines.{LogLine}
use Rattle.aa_log.specs.Found.{Asked, asked_by, is_wanted, wanted, requests_in}
use Rattle.aa_log.specs.Apart.{can_be_asked, LinesAskSo, RequestsTell}
use Rattle.aa_log.proofs.Apart.{keys_tell}

module _ {A : Type 0} where
  all_take : (p : A → Bool) (n : ℕ) (xs : List A) → list_all p xs ≡ true → list_all p (take n xs) ≡ true
  all_take p zero xs h = refl
  all_take p (suc n) [] h = refl
  all_take p (suc n) (x ∷ xs) h = (let both = and_parts (p x) (list_all p xs) h in and_from (p x) (list_all p (take n xs)) both.0 (all_take p n xs both.1))

  all_drop : (p : A → Bool) (n : ℕ) (xs : List A) → list_all p xs ≡ true → list_all p (drop n xs) ≡ true
  all_drop p zero xs h = h
  all_drop p (suc n) [] h = refl
  all_drop p (suc n) (x ∷ xs) h = all_drop p n xs (and_parts (p x) (list_all p xs) h).1

  all_both : (p : A → Bool) (xs ys : List A) → list_all p xs ≡ true → list_all p ys ≡ true → list_all p (xs ++ ys) ≡ true
  all_both p xs ys h k = list_all-append p xs ys ∙ and_from (list_all p xs) (list_all p ys) h k

  all_reverse : (p : A → Bool) (xs : List A) → list_all p xs ≡ true → list_all p (reverse xs) ≡ true
  all_reverse p [] h = refl
  all_reverse p (x ∷ xs) h = (let both = and_parts (p x) (list_all p xs) h in ap (list_all p) (reverse-append (x ∷ []) xs) ∙ all_both p (reverse xs) (x ∷ []) (all_reverse p xs both.1) (and_from (p x) true both.0 refl))

  abbrev if_there : (A → Bool) → Option A → Bool
  if_there p None = true
  if_there p (Some x) = p x

  found_passes : (p q : A → Bool) (xs : List A) → list_all q xs ≡ true → if_there q (find p xs) ≡ true
  found_passes p q [] h = refl
  found_passes p q (x ∷ xs) h =
      let both = and_parts (q x) (list_all q xs) h in
      elim (p x) as (λ t. if_there q (cond t (Some x) (find p xs)) ≡ true) [ true ↦ both.0 | false ↦ found_passes p q xs both.1 ]

  either_passes : (q : A → Bool) (o s : Option A) → if_there q o ≡ true → if_there q s ≡ true → if_there q (option_or o s) ≡ true
  either_passes q None s h k = k
  either_passes q (Some x) s h k = h

-- the text of a word is bytes
abbrev word_ok : WordData → Bool
word_ok w = are_bytes w.text

plain_ok : (form : Form) (key value : List ℕ) → are_bytes value ≡ true → if_there word_ok ((plain_piece form key value).word) ≡ true
plain_ok form key value h = all_take (λ b. nat_lt b 256) (run_len value) value h

quoted_ok : (key value : List ℕ) (n : Option ℕ) → are_bytes value ≡ true → if_there word_ok ((quoted_piece key value n).word) ≡ true
quoted_ok key value None h = plain_ok Open key value h
quoted_ok key value (Some n) h = all_take (λ b. nat_lt b 256) n (drop 1 value) (all_drop (λ b. nat_lt b 256) 1 value h)

field_ok : (key value : List ℕ) → are_bytes value ≡ true → if_there word_ok ((field_piece key value).word) ≡ true
unfolding field_piece
field_ok key [] h = plain_ok Plain key [] h
field_ok key (b ∷ bs) h =
    elim (b == 34) as (λ t. if_there word_ok ((cond t (quoted_piece key (b ∷ bs) (position (λ c. c == 34) bs)) (cond (b == 39) (record { bytes = length key + 2; word = None }) (plain_piece Plain key (b ∷ bs)))).word) ≡ true) [
      | true ↦ quoted_ok key (b ∷ bs) (position (λ c. c == 34) bs) h
      | false ↦ elim (b == 39) as (λ t. if_there word_ok ((cond t (record { bytes = length key + 2; word = None }) (plain_piece Plain key (b ∷ bs))).word) ≡ true) [ true ↦ refl | false ↦ plain_ok Plain key (b ∷ bs) h ]
    ]

run_ok : (line : List ℕ) → are_bytes line ≡ true → if_there word_ok ((run_piece line).word) ≡ true
run_ok line h = all_take (λ b. nat_lt b 256) (run_len line) line h

keyed_ok : (line key rest : List ℕ) → are_bytes line ≡ true → are_bytes rest ≡ true → if_there word_ok ((keyed_piece line key rest).word) ≡ true
keyed_ok line key [] h k = run_ok line h
keyed_ok line key (b ∷ value) h k =
    elim (nat_lt 0 (length key) && b == 61) as (λ t. if_there word_ok ((cond t (field_piece key value) (run_piece line)).word) ≡ true) [
      | true ↦ field_ok key value (and_parts (nat_lt b 256) (are_bytes value) k).1
      | false ↦ run_ok line h
    ]

piece_ok : (line : List ℕ) → are_bytes line ≡ true → if_there word_ok ((first_piece line).word) ≡ true
unfolding first_piece
piece_ok [] h = refl
piece_ok (b ∷ bs) h =
    elim (is_separator b) as (λ t. if_there word_ok ((cond t (record { bytes = 1; word = None }) (keyed_piece (b ∷ bs) (take (key_len (b ∷ bs)) (b ∷ bs)) (drop (key_len (b ∷ bs)) (b ∷ bs)))).word) ≡ true) [
      | true ↦ refl
      | false ↦ keyed_ok (b ∷ bs) (take (key_len (b ∷ bs)) (b ∷ bs)) (drop (key_len (b ∷ bs)) (b ∷ bs)) h (all_drop (λ b. nat_lt b 256) (key_len (b ∷ bs)) (b ∷ bs) h)
    ]

listed : (o : Option WordData) → if_there word_ok o ≡ true → list_all word_ok (option_to_list o) ≡ true
listed None h = refl
listed (Some w) h = and_from (word_ok w) true h refl

words_ok : (n : ℕ) (line : List ℕ) → are_bytes line ≡ true → list_all word_ok (words_behind n line) ≡ true
unfolding words_behind
words_ok n [] h = refl
words_ok (suc n) (b ∷ bs) h = words_ok n bs (and_parts (nat_lt b 256) (are_bytes bs) h).1
words_ok zero (b ∷ bs) h =
    all_both word_ok (option_to_list ((first_piece (b ∷ bs)).word)) (words_behind ((first_piece (b ∷ bs)).bytes - 1) bs)
    (listed ((first_piece (b ∷ bs)).word) (piece_ok (b ∷ bs) h)) (words_ok ((first_piece (b ∷ bs)).bytes - 1) bs (and_parts (nat_lt b 256) (are_bytes bs) h).1)

-- what digits are are bytes
implied : (a b : Bool) → (not a || b) ≡ true → a ≡ true → b ≡ true
implied true b h e = h
implied false b h e = absurd (true≢false (sym e))

digit_small : (b : ℕ) → nat_lt b 256 ≡ true → is_hex_digit b ≡ true → digit_of b < 16
digit_small b h is = ltb-true (digit_of b) 16 (implied (is_hex_digit b) (nat_lt (digit_of b) 16) (agree_below_at (λ c. not (is_hex_digit c) || nat_lt (digit_of c) 16) (λ c. true) 256 b refl (ltb-true b 256 h)) is)

hex_ok : (text : List ℕ) → are_bytes text ≡ true → list_all is_hex_digit text ≡ true → are_bytes (bytes_of_hex text) ≡ true
unfolding bytes_of_hex
hex_ok [] h k = refl
hex_ok (a ∷ []) h k = refl
hex_ok (a ∷ b ∷ rest) h k =
    let bytes = and_parts (nat_lt a 256) (are_bytes (b ∷ rest)) h in
    let others = and_parts (nat_lt b 256) (are_bytes rest) bytes.1 in
    let digits = and_parts (is_hex_digit a) (list_all is_hex_digit (b ∷ rest)) k in
    let more = and_parts (is_hex_digit b) (list_all is_hex_digit rest) digits.1 in
    let high = digit_small a bytes.0 digits.0 in
    let low = digit_small b others.0 more.0 in
    and_from (nat_lt (16 * digit_of a + digit_of b) 256) (are_bytes (bytes_of_hex rest)) (lt-ltb (16 * digit_of a + digit_of b) 256 (omega (arith, high, low))) (hex_ok rest others.1 more.1)

name_ok : (w : WordData) → word_ok w ≡ true → are_bytes (name_in w) ≡ true
name_ok w h = elim (cases_Bool (is_plain w.form && is_hex w.text)) [
  | inl hex ↦ ap (λ (t : Bool). are_bytes (cond t (bytes_of_hex w.text) w.text)) hex ∙ hex_ok w.text h (and_parts (is_even w.text) (list_all is_hex_digit w.text) (and_parts (is_plain w.form) (is_hex w.text) hex).1).1
  | inr other ↦ ap (λ (t : Bool). are_bytes (cond t (bytes_of_hex w.text) w.text)) other ∙ h
]

named_ok : (o : Option WordData) → if_there word_ok o ≡ true → if_there are_bytes (option_map name_in o) ≡ true
named_ok None h = refl
named_ok (Some w) h = name_ok w h

text_ok : (key : List ℕ) (ws : List WordData) → list_all word_ok ws ≡ true → if_there are_bytes (text_in key ws) ≡ true
unfolding field_in
text_ok key ws h = named_ok (find (λ w. bytes_eq w.key key) (reverse ws)) (found_passes (λ w. bytes_eq w.key key) word_ok (reverse ws) (all_reverse word_ok ws h))

-- what a record's fields ask can be asked
abbrev ok : Result Request Cause → Bool
ok (Err why) = true
ok (Ok r) = is_askable r

ok_if : (b : Bool) (x y : Result Request Cause) → (b ≡ true → ok x ≡ true) → ok y ≡ true → ok (cond b x y) ≡ true
ok_if true x y h k = h refl
ok_if false x y h k = k

among_ok : (table : List (List ℕ)) (name : List ℕ) (n : ℕ) → number_among table name ≡ Some n → nat_lt n (length table) ≡ true
among_ok table name n e = lt-ltb n (length table) (position-Some (λ entry. bytes_eq entry name) table n [] e).0

cap_ok : (o : Option (List ℕ)) → ok (cap_by (option_and_then (number_among capability_names) o)) ≡ true
cap_ok None = refl
cap_ok (Some name) = by_number (number_among capability_names name) refl
  where
    by_number : (n : Option ℕ) → number_among capability_names name ≡ n → ok (cap_by n) ≡ true
    by_number None e = refl
    by_number (Some n) e = among_ok capability_names name n e

exec_ok : (owned : Bool) (o : Option (List ℕ)) → if_there are_bytes o ≡ true → ok (exec_by owned o) ≡ true
exec_ok owned None h = refl
exec_ok owned (Some path) h = ok_if (is_path path) (Ok (Exec (record { path = path; owned = owned }))) (Err _) (λ is. and_from (are_bytes path) (is_path path) h is) refl

link_ok : (owned : Bool) (o s : Option (List ℕ)) → if_there are_bytes o ≡ true → if_there are_bytes s ≡ true → ok (link_by owned o s) ≡ true
link_ok owned None s h k = refl
link_ok owned (Some link) None h k = refl
link_ok owned (Some link) (Some target) h k =
    ok_if (is_path link && is_path target) (Ok (Link (record { link = link; target = target; owned = owned }))) (Err _)
    (λ is. let both = and_parts (is_path link) (is_path target) is in
    and_from (is_path_of_bytes link) (is_path_of_bytes target) (and_from (are_bytes link) (is_path link) h both.0) (and_from (are_bytes target) (is_path target) k both.1)) refl

change_ok : (o : Option (List ℕ)) → if_there are_bytes o ≡ true → ok (change_by o) ≡ true
change_ok None h = refl
change_ok (Some name) h = ok_if (is_wanted_name name) (Ok (Change name)) (Err _) (λ is. and_from (are_bytes name) (is_wanted_name name) h is) refl

net_ok : (family kind : List ℕ) → ok (net_by family kind) ≡ true
net_ok family kind = elim (bytes_eq family (codes "unix")) as (λ t. ok (cond t (Err (Keyword (codes "unix"))) (socket_by (number_among family_names family) (number_among sock_type_names kind))) ≡ true) [
  | true ↦ refl
  | false ↦ by_numbers (number_among family_names family) (number_among sock_type_names kind) refl refl
]
  where
    by_numbers : (n m : Option ℕ) → number_among family_names family ≡ n → number_among sock_type_names kind ≡ m → ok (socket_by n m) ≡ true
    by_numbers None m e f = refl
    by_numbers (Some n) None e f = refl
    by_numbers (Some n) (Some m) e f = and_from (nat_lt n (length family_names)) (nat_lt m (length sock_type_names)) (among_ok family_names family n e) (among_ok sock_type_names kind m f)

masked_ok : (ws : List WordData) (path : List ℕ) (m : Option (ℕ × Option Bool)) → are_bytes path ≡ true → ok (masked_file ws path m) ≡ true
masked_ok ws path None h = refl
masked_ok ws path (Some m) h =
    ok_if (is_path path) (cond (is_mask m.0) (Ok (File (record { path = path; mask = record { 0 = m.0 }; owned = owned_in m.1 ws }))) (Err _)) (Err _)
    (λ is. ok_if (is_mask m.0) (Ok (File (record { path = path; mask = record { 0 = m.0 }; owned = owned_in m.1 ws }))) (Err _)
    (λ mask. and_from (is_path_of_bytes path) (is_mask m.0) (and_from (are_bytes path) (is_path path) h is) mask) refl) refl

file_ok : (ws : List WordData) (letters : List ℕ) (o : Option (List ℕ)) → if_there are_bytes o ≡ true → ok (file_by ws letters o) ≡ true
file_ok ws letters None h = refl
file_ok ws letters (Some path) h = masked_ok ws path (asked_mask letters) h

requested_ok : (ws : List WordData) (o : Option (List ℕ)) → list_all word_ok ws ≡ true → ok (requested_by ws o) ≡ true
requested_ok ws None h = refl
requested_ok ws (Some letters) h = file_ok ws letters (text_in (codes "name") ws) (text_ok (codes "name") ws h)

object_ok : (ws : List WordData) (family kind : Option (List ℕ)) → list_all word_ok ws ≡ true → ok (object_by ws family kind) ≡ true
object_ok ws None kind h = requested_ok ws (raw_in (codes "requested_mask") ws) h
object_ok ws (Some family) None h = requested_ok ws (raw_in (codes "requested_mask") ws) h
object_ok ws (Some family) (Some kind) h = net_ok family kind

operation_ok : (ws : List WordData) (operation : List ℕ) → list_all word_ok ws ≡ true → ok (by_operation ws operation) ≡ true
unfolding by_operation
operation_ok ws operation h =
    let name = text_ok (codes "name") ws h in
    let target = text_ok (codes "target") ws h in
    let second = text_ok (codes "name2") ws h in
    ok_if (bytes_eq operation (codes "capable")) (cap_in ws) _ (λ is. cap_ok (option_or (raw_in (codes "capname") ws) (raw_in (codes "name") ws)))
    (ok_if (bytes_eq operation (codes "exec")) (exec_in ws) _ (λ is. exec_ok (owned_in (mask_owner ws) ws) (text_in (codes "name") ws) name)
    (ok_if (bytes_eq operation (codes "link") || bytes_eq operation (codes "inode_link")) (link_in ws) _
    (λ is. link_ok (owned_in (mask_owner ws) ws) (text_in (codes "name") ws) (option_or (text_in (codes "target") ws) (text_in (codes "name2") ws)) name
    (either_passes are_bytes (text_in (codes "target") ws) (text_in (codes "name2") ws) target second))
    (ok_if (bytes_eq operation (codes "change_profile")) (change_in ws) (object_in ws)
    (λ is. change_ok (option_or (text_in (codes "target") ws) (text_in (codes "name") ws))
    (either_passes are_bytes (text_in (codes "target") ws) (text_in (codes "name") ws) target name))
    (object_ok ws (raw_in (codes "family") ws) (raw_in (codes "sock_type") ws) h))))

over_ok : (ws : List WordData) (operation : List ℕ) (o : Option (List ℕ)) → list_all word_ok ws ≡ true → ok (unless_over ws operation o) ≡ true
over_ok ws operation None h = operation_ok ws operation h
over_ok ws operation (Some word) h = refl

fields_ok : (ws : List WordData) (o : Option (List ℕ)) → list_all word_ok ws ≡ true → ok (of_operation ws o) ≡ true
fields_ok ws None h = refl
fields_ok ws (Some operation) h =
    ok_if (is_text_there (codes "no new privs") (raw_in (codes "info") ws)) (Err _) (unless_over ws operation (passed_over operation ws)) (λ is. refl) (over_ok ws operation (passed_over operation ws) h)

asked_ok : (ws : List WordData) → list_all word_ok ws ≡ true → ok (asked_in ws) ≡ true
unfolding asked_in
asked_ok ws h = fields_ok ws (raw_in (codes "operation") ws) h

-- so can what a record asks, of a profile whose name is bytes
abbrev so : Result (Option RecordData) Cause → Bool
so (Err why) = true
so (Ok None) = true
so (Ok (Some r)) = are_bytes r.profile && is_askable r.request

abbrev name_so : Result (List ℕ) Cause → Bool
name_so (Err why) = true
name_so (Ok name) = are_bytes name

request_so : (ws : List WordData) (became : Then) (profile : List ℕ) (r : Result Request Cause) → are_bytes profile ≡ true → ok r ≡ true → so (with_request ws became profile r) ≡ true
request_so ws became profile (Err why) h k = refl
request_so ws became profile (Ok r) h k = and_from (are_bytes profile) (is_askable r) h k

profile_so : (ws : List WordData) (became : Then) (p : Result (List ℕ) Cause) → list_all word_ok ws ≡ true → name_so p ≡ true → so (with_profile ws became p) ≡ true
profile_so ws became (Err why) h k = refl
profile_so ws became (Ok profile) h k = request_so ws became profile (asked_in ws) k (asked_ok ws h)

name_in_so : (o space : Option (List ℕ)) → if_there are_bytes o ≡ true → name_so (named_profile o space) ≡ true
name_in_so None space h = refl
name_in_so (Some name) space h =
    elim (starts_with nat_eq name (codes ":") || is_other_space space) as (λ t. name_so (cond t (Err (Because Namespace)) (cond (holds_part (codes "//&") name) (Err (Because Stacked)) (Ok name))) ≡ true) [
      | true ↦ refl
      | false ↦ elim (holds_part (codes "//&") name) as (λ t. name_so (cond t (Err (Because Stacked)) (Ok name)) ≡ true) [ true ↦ refl | false ↦ h ]
    ]

profile_in_so : (ws : List WordData) → list_all word_ok ws ≡ true → name_so (profile_in ws) ≡ true
unfolding profile_in
profile_in_so ws h = name_in_so (option_or (text_in (codes "profile") ws) (text_in (codes "label") ws)) (text_in (codes "namespace") ws)
    (either_passes are_bytes (text_in (codes "profile") ws) (text_in (codes "label") ws) (text_ok (codes "profile") ws h) (text_ok (codes "label") ws h))

-- by what a record's word tells, or else its type
denied_so : (ws : List WordData) (became : Then) → list_all word_ok ws ≡ true → so (with_profile ws became (profile_in ws)) ≡ true
denied_so ws became h = profile_so ws became (profile_in ws) h (profile_in_so ws h)

word_so : (ws : List WordData) (word : List ℕ) → list_all word_ok ws ≡ true → so (by_told ws (word_tells (told_by_word word))) ≡ true
unfolding told_by_word
word_so ws word h = elim (cases_Bool (bytes_eq word (codes "DENIED") || bytes_eq word (codes "KILLED"))) [
  | inl denied ↦ rw denied (denied_so ws was.Denied h)
  | inr other ↦ rw other (elim (cases_Bool (bytes_eq word (codes "ALLOWED"))) [
    | inl allowed ↦ rw allowed (denied_so ws was.Allowed h)
    | inr another ↦ rw another (elim (cases_Bool (bytes_eq word (codes "AUDIT"))) [
      | inl granted ↦ rw granted (denied_so ws was.Granted h)
      | inr neither ↦ rw neither (elim (cases_Bool (bytes_eq word (codes "HINT") || bytes_eq word (codes "STATUS") || bytes_eq word (codes "ERROR"))) [ inl status ↦ rw status refl | inr unknown ↦ rw unknown refl ])
    ])
  ])
]

type_so : (ws : List WordData) (kind : List ℕ) → list_all word_ok ws ≡ true → so (by_told ws (Ok (told_by_type kind))) ≡ true
unfolding told_by_type
type_so ws kind h = elim (cases_Bool (is_one_of (codes "1501") (codes "UNKNOWN[1501]") (codes "APPARMOR_AUDIT") kind)) [
  | inl granted ↦ rw granted (denied_so ws was.Granted h)
  | inr other ↦ rw other (elim (cases_Bool (is_one_of (codes "1502") (codes "UNKNOWN[1502]") (codes "APPARMOR_ALLOWED") kind)) [
    | inl allowed ↦ rw allowed (denied_so ws was.Allowed h)
    | inr another ↦ rw another (elim (cases_Bool (is_one_of (codes "1503") (codes "UNKNOWN[1503]") (codes "APPARMOR_DENIED") kind)) [
      | inl denied ↦ rw denied (denied_so ws was.Denied h)
      | inr neither ↦ rw neither
          (elim (cases_Bool
          (is_one_of (codes "1504") (codes "UNKNOWN[1504]") (codes "APPARMOR_HINT") kind || is_one_of (codes "1505") (codes "UNKNOWN[1505]")
          (codes "APPARMOR_STATUS") kind || is_one_of (codes "1506") (codes "UNKNOWN[1506]")
          (codes "APPARMOR_ERROR") kind)) [ inl status ↦ rw status refl | inr unknown ↦ rw unknown refl ])
    ])
  ])
]

tells_so : (ws : List WordData) (word kind : Option (List ℕ)) → list_all word_ok ws ≡ true → so (by_told ws (tells word kind)) ≡ true
tells_so ws (Some word) kind h = word_so ws word h
tells_so ws None None h = refl
tells_so ws None (Some kind) h = elim (cases_Bool (is_old_type kind)) [ inl old ↦ rw old refl | inr new ↦ rw new (type_so ws kind h) ]

told_so : (ws : List WordData) → list_all word_ok ws ≡ true → so (by_told ws (told_in ws)) ≡ true
unfolding told_in
told_so ws h = tells_so ws (raw_in (codes "apparmor") ws) (raw_in (codes "type") ws) h

so_if : (b : Bool) (x y : Result (Option RecordData) Cause) → so x ≡ true → so y ≡ true → so (cond b x y) ≡ true
so_if true x y h k = h
so_if false x y h k = k

record_so : (line : List ℕ) → are_bytes line ≡ true → so (record_in line) ≡ true
unfolding record_in record_by
record_so line h =
    let words = words_ok 0 line h in
    so_if (nat_lt 65536 (length line)) (Err _) (cond (is_broken (words_of line)) (Err _) (by_told (words_of line) (told_in (words_of line)))) refl
    (so_if (is_broken (words_of line)) (Err _) (by_told (words_of line) (told_in (words_of line))) refl (told_so (words_of line) words))

-- and what a line asks
abbrev asks_so : Outcome → Bool
asks_so Another = true
asks_so (AsksNothing why) = true
asks_so (AsksFor r) = are_bytes r.profile && is_askable r.request

outcome_so : (r : Result (Option RecordData) Cause) → so r ≡ true → asks_so (outcome_by r) ≡ true
outcome_so (Err why) h = refl
outcome_so (Ok None) h = refl
outcome_so (Ok (Some r)) h = h

whole_so : (line : List ℕ) → are_bytes line ≡ true → asks_so (outcome_of line) ≡ true
whole_so line h = elim (is_record line) as (λ t. asks_so (cond t (outcome_by (record_in line)) Another) ≡ true) [ true ↦ outcome_so (record_in line) (record_so line h) | false ↦ refl ]

returned_so : (line : List ℕ) → are_bytes line ≡ true → are_bytes (without_return line) ≡ true
returned_so line h = elim (is_return (slice_get line (length line - 1))) as (λ t. are_bytes (cond t (take (length line - 1) line) line) ≡ true) [ true ↦ all_take (λ b. nat_lt b 256) (length line - 1) line h | false ↦ h ]

line_so : (line : List ℕ) → are_bytes line ≡ true → asks_so (line_in line) ≡ true
unfolding line_in
line_so line h = whole_so (without_return line) (returned_so line h)

by_so : (l : LogLine) (o : Outcome) → asks_so o ≡ true → list_all can_be_asked (asked_by l o) ≡ true
by_so l Another h = refl
by_so l (AsksNothing why) h = refl
by_so l (AsksFor r) h = and_from (are_bytes r.profile && is_askable r.request) true h refl

pub lines_ask_so : LinesAskSo
unfolding requests_in
lines_ask_so c [] h = refl
lines_ask_so c (l ∷ ls) h =
    let both = and_parts (are_bytes l.bytes) (list_all (λ l. are_bytes l.bytes) ls) h in
    let asks : LogLine → List Asked = λ l. asked_by l (line_in l.bytes) in
    elim (is_wanted c l.bytes) as (λ t. list_all can_be_asked (flat_map asks (cond t (l ∷ wanted c ls) (wanted c ls))) ≡ true) [
      | true ↦ ap (list_all can_be_asked) (flat_map-cons asks l (wanted c ls)) ∙ all_both can_be_asked (asks l) (flat_map asks (wanted c ls)) (by_so l (line_in l.bytes) (line_so l.bytes both.0)) (lines_ask_so c ls both.1)
      | false ↦ lines_ask_so c ls both.1
    ]

module _ {A : Type 0} where
  all_at : (p : A → Bool) (xs : List A) (i : ℕ) (x : A) → list_all p xs ≡ true → slice_get xs i ≡ Some x → p x ≡ true
  all_at p [] i x h is = absurd (cc)
  all_at p (y ∷ ys) zero x h is = (let same : y ≡ x = cc in ap p (sym same) ∙ (and_parts (p y) (list_all p ys) h).0)
  all_at p (y ∷ ys) (suc i) x h is = all_at p ys i x (and_parts (p y) (list_all p ys) h).1 is

pub requests_tell : RequestsTell
requests_tell c ls h i j a b at_i at_j = keys_tell a b (all_at can_be_asked (requests_in c ls) i a (lines_ask_so c ls h) at_i) (all_at can_be_asked (requests_in c ls) j b (lines_ask_so c ls h) at_j)
