-- The words of an audit line of each operation, and the record that they are.
use Rattle.std.proofs.Common.{◌≡◌, ℕ, ◌<◌, ◌≤◌, Bool, true, false, not, ◌&&◌, ◌||◌, ◌==◌, List, [], ◌∷◌, ◌++◌, length}
use Rattle.std.proofs.Common.{cond, refl, sym, ◌∙◌, ap, arith, codes, decimal, nat_eq, nat_lt, nat_le, bit_and, Option, Some, None, Result, Ok, Err}
use Rattle.std.proofs.Common.{true≢false}
use Rattle.std.specs.Fmt.{digits}
use Rattle.std.specs.List.{list_all, starts_with}
use Rattle.std.specs.Str.{bytes_eq}
use Rattle.std.proofs.lemmas.Bool.{and_parts, and_from, agree_below_at, eqb-true, ltb-true, leb-true}
use Rattle.aa_base.specs.Tables.{number_in as number_among, capability_names, family_names, sock_type_names}
use Rattle.aa_model.specs.Requests.{is_path, is_mask, is_wanted_name}
use Rattle.aa_model.specs.declared.request.Request.{Request}
use Rattle.aa_model.specs.declared.request.Request.TheVariants.{File, Link, Exec, Cap, Net, Change}
use Rattle.aa_model.specs.declared.answer.NoteWord.{NoteWord}
use Rattle.aa_model.specs.declared.answer.NoteWord.TheVariants as note
use Rattle.aa_base.specs.Values.{letters}
use Rattle.aa_base.specs.Tables.{entry}
use Rattle.aa_audit.specs.Lines.{word_text}
use Rattle.aa_logs.specs.declared.line.Reason.TheVariants.{Namespace, Stacked, Path, Mask, Name}
use Rattle.aa_logs.specs.Words.{WordData}
use Rattle.aa_logs.specs.Values.{name_in}
use Rattle.aa_logs.specs.Masks.{letters_bits}
use Rattle.aa_logs.specs.Fields.{field_in, place_of}
use Rattle.aa_logs.specs.Asked.{Cause, Because, Keyword, keyword_of, by_operation, asked_in, asked_mask, masked_file, owned_in, cap_by, exec_by, link_by, change_by, net_by, socket_by}
use Rattle.aa_logs.specs.Records.{told_by_word, told_in, word_tells, by_told, with_profile, profile_in, named_profile, holds_part, record_by}
use Rattle.aa_round_trip_laws.specs.OwnLines.{became, is_own_name}
use Rattle.aa_notation.specs.Parts.{are_bytes, is_path_of_bytes}
use Rattle.aa_round_trip_laws.proofs.Fields.{word_field, bare_field}
use Rattle.aa_round_trip_laws.proofs.Names.{named, name_named}
use Rattle.aa_round_trip_laws.proofs.Parts.{head_words, denied_words, is_bare_text, is_quotable}
use Rattle.aa_round_trip_laws.proofs.Sound.{is_sound, sound_on, own_record, record_from}
use Rattle.aa_notation.proofs.Paths.{is_found, found_back}
use Rattle.aa_notation.proofs.Reading.{either}
use Rattle.aa_notation.proofs.Splits.{not_true}

-- the profile is the one that is named
own_profile : (profile : List ℕ) → is_own_name profile ≡ true → named_profile (Some (name_in (named (codes "profile") profile))) None ≡ Ok profile
own_profile profile h =
    let parts = and_parts (are_bytes profile && not (starts_with nat_eq profile (codes ":"))) (not (holds_part (codes "//&") profile)) h in
    let front = and_parts (are_bytes profile) (not (starts_with nat_eq profile (codes ":"))) parts.0 in
    ap (λ (n : List ℕ). named_profile (Some n) None) (name_named (codes "profile") profile front.0)
    ∙ (ap (λ (b : Bool). cond (b || false) (Err (Because Namespace)) (cond (holds_part (codes "//&") profile) (Err (Because Stacked)) (Ok profile))) (not_true (starts_with nat_eq profile (codes ":")) front.1)
    ∙ ap (λ (b : Bool). cond b (Err (Because Stacked)) (Ok profile)) (not_true (holds_part (codes "//&") profile) parts.1))

-- the letters of a mask are read as the mask
abbrev is_asked : Option (ℕ × Option Bool) → ℕ → Bool
is_asked None bits = false
is_asked (Some (m, None)) bits = m == bits
is_asked (Some (m, Some b)) bits = false

asked_back : (o : Option (ℕ × Option Bool)) (bits : ℕ) → is_asked o bits ≡ true → o ≡ Some (bits, None)
asked_back None bits h = absurd (true≢false (sym h))
asked_back (Some (m, None)) bits h = ap (λ (n : ℕ). Some (n, None)) (eqb-true m bits h)
asked_back (Some (m, Some b)) bits h = absurd (true≢false (sym h))

mask_read : (bits : ℕ) → is_mask bits ≡ true → is_asked (asked_mask (letters bits)) bits ≡ true
unfolding letters letters_bits place_of
mask_read bits h =
    let most : bits ≤ 127 = leb-true bits 127 (and_parts (not (bits == 0) && bit_and bits 72 == 0) (nat_le bits 127) h).1 in
    let below : bits < 128 = omega arith in
    either (is_mask bits) (is_asked (asked_mask (letters bits)) bits) (agree_below_at (λ n. not (is_mask n) || is_asked (asked_mask (letters n)) n) (λ n. true) 128 bits refl below) h

-- a file by its name and mask
file_read : (ws : List WordData) (path : List ℕ) (bits : ℕ) → is_path_of_bytes path ≡ true → is_mask bits ≡ true
    → masked_file ws (name_in (named (codes "name") path)) (asked_mask (letters bits)) ≡ Ok (File (record { path = path; mask = record { 0 = bits }; owned = owned_in None ws }))
file_read ws path bits p m =
    let parts = and_parts (are_bytes path) (is_path path) p in
    let asks : Result Request Cause = Ok (File (record { path = path; mask = record { 0 = bits }; owned = owned_in None ws })) in
    ap (λ (n : List ℕ). masked_file ws n (asked_mask (letters bits))) (name_named (codes "name") path parts.0)
    ∙ (ap (masked_file ws path) (asked_back (asked_mask (letters bits)) bits (mask_read bits m))
    ∙ (ap (λ (b : Bool). cond b (cond (is_mask bits) asks (Err (Because Mask))) (Err (Because Path))) parts.1
    ∙ ap (λ (b : Bool). cond b asks (Err (Because Mask))) m))

-- what stands behind the profile, from the mask on
abbrev pub mask_words : NoteWord → ℕ → ℕ → List WordData
mask_words word bits blocked = word_field (codes "requested_mask") (letters bits) ∷ denied_words word blocked

-- two names behind a head that is sound are sound
sound_names : (profile k name : List ℕ) (ws : List WordData) → bytes_eq k (codes "msg") ≡ false → list_all is_sound ws ≡ true → list_all is_sound (named (codes "profile") profile ∷ named k name ∷ ws) ≡ true
sound_names profile k name ws e h = sound_on (codes "profile") profile (named k name ∷ ws) refl (sound_on k name ws e h)

abbrev pub file_words : NoteWord → List ℕ → List ℕ → ℕ → ℕ → List WordData
file_words word profile path bits blocked = head_words word (codes "file") profile ++ (named (codes "name") path ∷ mask_words word bits blocked)

abbrev file_of : List ℕ → ℕ → Request
file_of path bits = File (record { path = path; mask = record { 0 = bits }; owned = false })

pub file_record : (word : NoteWord) (profile path : List ℕ) (bits blocked : ℕ) → is_own_name profile ≡ true → is_path_of_bytes path ≡ true → is_mask bits ≡ true
    → record_by (file_words word profile path bits blocked) ≡ Ok (Some (own_record (became word) profile (file_of path bits)))
unfolding field_in told_in told_by_word profile_in asked_in by_operation keyword_of
file_record note.Denied profile path bits blocked h p m =
    let ws = file_words note.Denied profile path bits blocked in
    record_from ws (became note.Denied) profile (file_of path bits) (sound_names profile (codes "name") path (mask_words note.Denied bits blocked) refl refl) refl (own_profile profile h) (file_read ws path bits p m) refl
file_record note.Allowed profile path bits blocked h p m =
    let ws = file_words note.Allowed profile path bits blocked in
    record_from ws (became note.Allowed) profile (file_of path bits) (sound_names profile (codes "name") path (mask_words note.Allowed bits blocked) refl refl) refl (own_profile profile h) (file_read ws path bits p m) refl
file_record note.Audit profile path bits blocked h p m =
    let ws = file_words note.Audit profile path bits blocked in
    record_from ws (became note.Audit) profile (file_of path bits) (sound_names profile (codes "name") path (mask_words note.Audit bits blocked) refl refl) refl (own_profile profile h) (file_read ws path bits p m) refl

-- what a note's word tells, whatever the words behind it
told_as : (word : NoteWord) (ws : List WordData) → by_told ws (word_tells (told_by_word (word_text word))) ≡ with_profile ws (became word) (profile_in ws)
unfolding told_by_word
told_as note.Denied ws = refl
told_as note.Allowed ws = refl
told_as note.Audit ws = refl

-- a link by its two names
link_read : (owned : Bool) (link target : List ℕ) → is_path_of_bytes link ≡ true → is_path_of_bytes target ≡ true
    → link_by owned (Some (name_in (named (codes "name") link))) (Some (name_in (named (codes "target") target))) ≡ Ok (Link (record { link = link; target = target; owned = owned }))
link_read owned link target p q =
    let first = and_parts (are_bytes link) (is_path link) p in
    let second = and_parts (are_bytes target) (is_path target) q in
    let asks : Result Request Cause = Ok (Link (record { link = link; target = target; owned = owned })) in
    ap (λ (n : List ℕ). link_by owned (Some n) (Some (name_in (named (codes "target") target)))) (name_named (codes "name") link first.0)
    ∙ (ap (λ (n : List ℕ). link_by owned (Some link) (Some n)) (name_named (codes "target") target second.0)
    ∙ ap (λ (b : Bool). cond b asks (Err (Because Path))) (and_from (is_path link) (is_path target) first.1 second.1))

abbrev pub link_words : NoteWord → List ℕ → List ℕ → List ℕ → ℕ → List WordData
link_words word profile link target blocked = head_words word (codes "link") profile ++ (named (codes "name") link ∷ named (codes "target") target ∷ mask_words word 8 blocked)

abbrev link_of : List ℕ → List ℕ → Request
link_of link target = Link (record { link = link; target = target; owned = false })

pub link_record : (word : NoteWord) (profile link target : List ℕ) (blocked : ℕ) → is_own_name profile ≡ true → is_path_of_bytes link ≡ true → is_path_of_bytes target ≡ true
    → record_by (link_words word profile link target blocked) ≡ Ok (Some (own_record (became word) profile (link_of link target)))
unfolding field_in told_in told_by_word profile_in asked_in by_operation keyword_of place_of letters
link_record note.Denied profile link target blocked h p q =
    let ws = link_words note.Denied profile link target blocked in
    let tail = mask_words note.Denied 8 blocked in
    record_from ws (became note.Denied) profile (link_of link target)
    (sound_names profile (codes "name") link (named (codes "target") target ∷ tail) refl (sound_on (codes "target") target tail refl refl)) refl
    (own_profile profile h) (link_read false link target p q) refl
link_record note.Allowed profile link target blocked h p q =
    let ws = link_words note.Allowed profile link target blocked in
    let tail = mask_words note.Allowed 8 blocked in
    record_from ws (became note.Allowed) profile (link_of link target)
    (sound_names profile (codes "name") link (named (codes "target") target ∷ tail) refl (sound_on (codes "target") target tail refl refl)) refl
    (own_profile profile h) (link_read false link target p q) refl
link_record note.Audit profile link target blocked h p q =
    let ws = link_words note.Audit profile link target blocked in
    let tail = mask_words note.Audit 8 blocked in
    record_from ws (became note.Audit) profile (link_of link target)
    (sound_names profile (codes "name") link (named (codes "target") target ∷ tail) refl (sound_on (codes "target") target tail refl refl)) refl
    (own_profile profile h) (link_read false link target p q) refl

-- an execution by its name
exec_read : (owned : Bool) (path : List ℕ) → is_path_of_bytes path ≡ true → exec_by owned (Some (name_in (named (codes "name") path))) ≡ Ok (Exec (record { path = path; owned = owned }))
exec_read owned path p =
    let parts = and_parts (are_bytes path) (is_path path) p in
    ap (λ (n : List ℕ). exec_by owned (Some n)) (name_named (codes "name") path parts.0)
    ∙ ap (λ (b : Bool). cond b (Ok (Exec (record { path = path; owned = owned }))) (Err (Because Path))) parts.1

-- the label that an execution leads to, where it is granted
abbrev pub target_words : Bool → List ℕ → List WordData
target_words true target = named (codes "target") target ∷ []
target_words false target = []

abbrev pub exec_words : NoteWord → Bool → List ℕ → List ℕ → List ℕ → List WordData
exec_words word granted profile path target = head_words word (codes "exec") profile ++ (named (codes "name") path ∷ (mask_words word 64 64 ++ target_words granted target))

abbrev exec_of : List ℕ → Request
exec_of path = Exec (record { path = path; owned = false })

-- the words behind the name, with a target or without one
exec_sound : (word : NoteWord) (granted : Bool) (target : List ℕ) → list_all is_sound (mask_words word 64 64 ++ target_words granted target) ≡ true
exec_sound note.Denied true target = sound_on (codes "target") target [] refl refl
exec_sound note.Denied false target = refl
exec_sound note.Allowed true target = sound_on (codes "target") target [] refl refl
exec_sound note.Allowed false target = refl
exec_sound note.Audit true target = sound_on (codes "target") target [] refl refl
exec_sound note.Audit false target = refl

pub exec_record : (word : NoteWord) (granted : Bool) (profile path target : List ℕ) → is_own_name profile ≡ true → is_path_of_bytes path ≡ true
    → record_by (exec_words word granted profile path target) ≡ Ok (Some (own_record (became word) profile (exec_of path)))
unfolding field_in told_in told_by_word profile_in asked_in by_operation keyword_of place_of letters
exec_record note.Denied true profile path target h p =
    record_from (exec_words note.Denied true profile path target) (became note.Denied) profile (exec_of path)
    (sound_names profile (codes "name") path (mask_words note.Denied 64 64 ++ target_words true target) refl (exec_sound note.Denied true target)) refl
    (own_profile profile h) (exec_read false path p) refl
exec_record note.Denied false profile path target h p =
    record_from (exec_words note.Denied false profile path target) (became note.Denied) profile (exec_of path)
    (sound_names profile (codes "name") path (mask_words note.Denied 64 64 ++ target_words false target) refl (exec_sound note.Denied false target)) refl
    (own_profile profile h) (exec_read false path p) refl
exec_record note.Allowed true profile path target h p =
    record_from (exec_words note.Allowed true profile path target) (became note.Allowed) profile (exec_of path)
    (sound_names profile (codes "name") path (mask_words note.Allowed 64 64 ++ target_words true target) refl (exec_sound note.Allowed true target)) refl
    (own_profile profile h) (exec_read false path p) refl
exec_record note.Allowed false profile path target h p =
    record_from (exec_words note.Allowed false profile path target) (became note.Allowed) profile (exec_of path)
    (sound_names profile (codes "name") path (mask_words note.Allowed 64 64 ++ target_words false target) refl (exec_sound note.Allowed false target)) refl
    (own_profile profile h) (exec_read false path p) refl
exec_record note.Audit true profile path target h p =
    record_from (exec_words note.Audit true profile path target) (became note.Audit) profile (exec_of path)
    (sound_names profile (codes "name") path (mask_words note.Audit 64 64 ++ target_words true target) refl (exec_sound note.Audit true target)) refl
    (own_profile profile h) (exec_read false path p) refl
exec_record note.Audit false profile path target h p =
    record_from (exec_words note.Audit false profile path target) (became note.Audit) profile (exec_of path)
    (sound_names profile (codes "name") path (mask_words note.Audit 64 64 ++ target_words false target) refl (exec_sound note.Audit false target)) refl
    (own_profile profile h) (exec_read false path p) refl

-- an entry of a table of names is at its own number, and stands in a line
cap_number : (n : ℕ) → nat_lt n (length capability_names) ≡ true → number_among capability_names (entry capability_names n) ≡ Some n
unfolding capability_names
cap_number n h =
    found_back (number_among capability_names (entry capability_names n)) n (agree_below_at (λ m. is_found (number_among capability_names (entry capability_names m)) m) (λ m. true) 41 n refl (ltb-true n 41 h))

pub cap_quotable : (n : ℕ) → nat_lt n (length capability_names) ≡ true → (is_bare_text (decimal n) && list_all is_quotable (entry capability_names n)) ≡ true
unfolding capability_names digits
cap_quotable n h = agree_below_at (λ m. is_bare_text (decimal m) && list_all is_quotable (entry capability_names m)) (λ m. true) 41 n refl (ltb-true n 41 h)

family_number : (n : ℕ) → nat_lt n (length family_names) ≡ true → number_among family_names (entry family_names n) ≡ Some n
unfolding family_names
family_number n h =
    found_back (number_among family_names (entry family_names n)) n (agree_below_at (λ m. is_found (number_among family_names (entry family_names m)) m) (λ m. true) 44 n refl (ltb-true n 44 h))

pub family_quotable : (n : ℕ) → nat_lt n (length family_names) ≡ true → list_all is_quotable (entry family_names n) ≡ true
unfolding family_names
family_quotable n h = agree_below_at (λ m. list_all is_quotable (entry family_names m)) (λ m. true) 44 n refl (ltb-true n 44 h)

kind_number : (n : ℕ) → nat_lt n (length sock_type_names) ≡ true → number_among sock_type_names (entry sock_type_names n) ≡ Some n
unfolding sock_type_names
kind_number n h =
    found_back (number_among sock_type_names (entry sock_type_names n)) n (agree_below_at (λ m. is_found (number_among sock_type_names (entry sock_type_names m)) m) (λ m. true) 6 n refl (ltb-true n 6 h))

pub kind_quotable : (n : ℕ) → nat_lt n (length sock_type_names) ≡ true → list_all is_quotable (entry sock_type_names n) ≡ true
unfolding sock_type_names
kind_quotable n h = agree_below_at (λ m. list_all is_quotable (entry sock_type_names m)) (λ m. true) 6 n refl (ltb-true n 6 h)

abbrev pub cap_words : NoteWord → List ℕ → ℕ → List WordData
cap_words word profile n = head_words word (codes "capable") profile ++ (bare_field (codes "capability") (decimal n) ∷ word_field (codes "capname") (entry capability_names n) ∷ [])

pub cap_record : (word : NoteWord) (profile : List ℕ) (n : ℕ) → is_own_name profile ≡ true → nat_lt n (length capability_names) ≡ true
    → record_by (cap_words word profile n) ≡ Ok (Some (own_record (became word) profile (Cap n)))
unfolding field_in told_in profile_in asked_in by_operation keyword_of
cap_record word profile n h l =
    let ws = cap_words word profile n in
    record_from ws (became word) profile (Cap n)
    (sound_on (codes "profile") profile
    (bare_field (codes "capability") (decimal n) ∷ word_field (codes "capname") (entry capability_names n) ∷ []) refl refl) (told_as word ws)
    (own_profile profile h) (ap cap_by (cap_number n l)) refl

abbrev pub net_words : NoteWord → List ℕ → ℕ → ℕ → List WordData
net_words word profile family kind = head_words word (codes "net") profile ++ (word_field (codes "family") (entry family_names family) ∷ word_field (codes "sock_type") (entry sock_type_names kind) ∷ [])

net_read : (family kind : ℕ) → nat_lt family (length family_names) ≡ true → nat_lt kind (length sock_type_names) ≡ true → bytes_eq (entry family_names family) (codes "unix") ≡ false
    → net_by (entry family_names family) (entry sock_type_names kind) ≡ Ok (Net family kind)
net_read family kind f k other =
    let named_so : Result Request Cause = socket_by (number_among family_names (entry family_names family)) (number_among sock_type_names (entry sock_type_names kind)) in
    ap (λ (b : Bool). cond b (Err (Keyword (codes "unix"))) named_so) other
    ∙ (ap (λ (o : Option ℕ). socket_by o (number_among sock_type_names (entry sock_type_names kind))) (family_number family f)
    ∙ ap (λ (o : Option ℕ). socket_by (Some family) o) (kind_number kind k))

pub net_record : (word : NoteWord) (profile : List ℕ) (family kind : ℕ) → is_own_name profile ≡ true → nat_lt family (length family_names) ≡ true → nat_lt kind (length sock_type_names) ≡ true
    → bytes_eq (entry family_names family) (codes "unix") ≡ false → record_by (net_words word profile family kind) ≡ Ok (Some (own_record (became word) profile (Net family kind)))
unfolding field_in told_in profile_in asked_in by_operation keyword_of
net_record word profile family kind h f k other =
    let ws = net_words word profile family kind in
    record_from ws (became word) profile (Net family kind)
    (sound_on (codes "profile") profile
    (word_field (codes "family") (entry family_names family) ∷ word_field (codes "sock_type") (entry sock_type_names kind) ∷ []) refl refl)
    (told_as word ws) (own_profile profile h) (net_read family kind f k other) refl

abbrev pub change_words : NoteWord → List ℕ → List ℕ → List WordData
change_words word profile name = head_words word (codes "change_profile") profile ++ (named (codes "target") name ∷ [])

change_read : (name : List ℕ) → are_bytes name ≡ true → is_wanted_name name ≡ true → change_by (Some (name_in (named (codes "target") name))) ≡ Ok (Change name)
change_read name b w =
    ap (λ (n : List ℕ). change_by (Some n)) (name_named (codes "target") name b) ∙ ap (λ (t : Bool). cond t (Ok (Change name)) (Err (Because Name))) w

pub change_record : (word : NoteWord) (profile name : List ℕ) → is_own_name profile ≡ true → are_bytes name ≡ true → is_wanted_name name ≡ true
    → record_by (change_words word profile name) ≡ Ok (Some (own_record (became word) profile (Change name)))
unfolding field_in told_in profile_in asked_in by_operation keyword_of
change_record word profile name h b w =
    let ws = change_words word profile name in
    record_from ws (became word) profile (Change name) (sound_names profile (codes "target") name [] refl refl) (told_as word ws) (own_profile profile h) (change_read name b w) refl
