-- An audit line is its words, and so the record of what was asked.
use Rattle.std.proofs.Common.{◌≡◌, ℕ, ◌≤◌, Bool, true, false, not, ◌&&◌, List, [], ◌∷◌, ◌++◌, length, cond, refl, sym, ◌∙◌}
use Rattle.std.proofs.Common.{ap, subst, codes, decimal, nat_lt, Option, Some, Ok, true≢false, unwrap_or, option_and_then}
use Rattle.std.specs.List.{list_all}
use Rattle.std.specs.Str.{bytes_eq}
use Rattle.std.proofs.lemmas.Bool.{and_parts}
use Rattle.aa_base.specs.Tables.{capability_names, family_names, sock_type_names}
use Rattle.aa_model.specs.declared.policy.Policy.{Policy}
use Rattle.aa_model.specs.Requests.{is_mask, is_wanted_name}
use Rattle.aa_model.specs.declared.label.Label.{Label}
use Rattle.aa_model.specs.declared.request.Request.{Request}
use Rattle.aa_model.specs.declared.request.Request.TheVariants.{File, Link, Exec, Cap, Net, Change, Reload}
use Rattle.aa_model.specs.declared.answer.Answer.{Answer}
use Rattle.aa_model.specs.declared.answer.Note.{Note}
use Rattle.aa_model.specs.declared.answer.NoteWord.{NoteWord}
use Rattle.aa_compile.specs.Labels.{label_name}
use Rattle.aa_base.specs.Values.{letters, quoted, value, mask}
use Rattle.aa_audit.specs.Keys.{key, denied_key, keys}
use Rattle.aa_base.specs.Tables.{entry}
use Rattle.aa_audit.specs.Lines.{head_text, note_line}
use Rattle.aa_logs.specs.Words.{WordData}
use Rattle.aa_logs.specs.Fields.{place_of}
use Rattle.aa_logs.specs.Outcomes.{AsksFor}
use Rattle.aa_logs.specs.Records.{is_record, record_by, line_in}
use Rattle.aa_round_trip_laws.specs.OwnLines.{became, is_own_name, OwnLinesAreRead}
use Rattle.aa_round_trip_laws.specs.Kinds.{unowned, is_told}
use Rattle.aa_notation.specs.Parts.{are_bytes, is_path_of_bytes}
use Rattle.aa_round_trip_laws.proofs.Fields.{Stands, key_stands, whole, word_field, bare_field}
use Rattle.aa_round_trip_laws.proofs.Names.{named}
use Rattle.aa_round_trip_laws.proofs.Parts.{Part, is_quotable, is_bare_text, part_joined, stands_joined, part_nothing, part_named, part_quoted, part_bare, part_mask, head_words, head_part, denied_words, denied_part, denied_stands}
use Rattle.aa_round_trip_laws.proofs.Sound.{own_record, line_from}
use Rattle.aa_round_trip_laws.proofs.Operations.{mask_words, target_words, file_record, link_record, exec_record, cap_record, cap_quotable, net_record, family_quotable, kind_quotable, change_record}
use Rattle.aa_notation.proofs.Splits.{not_true}

-- each line is the access control's
marked : (word : NoteWord) (operation profile keys : List ℕ) → is_record (head_text word operation profile ++ keys) ≡ true
unfolding head_text quoted place_of
marked word operation profile keys = refl

-- a line of these keys, if they are these words and those are a record
own_from : (word : NoteWord) (operation profile keys : List ℕ) (ws : List WordData) (r : Request) → list_all is_quotable operation ≡ true → Part keys ws → Stands keys
    → record_by (head_words word operation profile ++ ws) ≡ Ok (Some (own_record (became word) profile r)) → length (head_text word operation profile ++ keys) ≤ 65536
    → line_in (head_text word operation profile ++ keys) ≡ AsksFor (own_record (became word) profile r)
own_from word operation profile keys ws r o p s e short =
    let all = part_joined (head_text word operation profile) keys (head_words word operation profile) ws (head_part word operation profile o) p s in
    line_from (head_text word operation profile ++ keys) (head_words word operation profile ++ ws) (own_record (became word) profile r)
    (whole (head_text word operation profile ++ keys) (head_words word operation profile ++ ws) all.1) e short (marked word operation profile keys) all.0

-- a name and a mask
name_part : (name : List ℕ) → Part (key (codes "name") (value name)) (named (codes "name") name ∷ [])
name_part name = part_named (codes "name") name refl refl

target_part : (name : List ℕ) → Part (key (codes "target") (value name)) (named (codes "target") name ∷ [])
target_part name = part_named (codes "target") name refl refl

asked_part : (bits : ℕ) → Part (key (codes "requested_mask") (mask bits)) (word_field (codes "requested_mask") (letters bits) ∷ [])
asked_part bits = part_mask (codes "requested_mask") bits refl refl

two_parts : (x y : List ℕ) (v w : WordData) → Part x (v ∷ []) → Part y (w ∷ []) → Stands y → Part (x ++ y) (v ∷ w ∷ [])
two_parts x y v w p q s = part_joined x y (v ∷ []) (w ∷ []) p q s

file_part : (word : NoteWord) (path : List ℕ) (bits blocked : ℕ)
    → Part (key (codes "name") (value path) ++ key (codes "requested_mask") (mask bits) ++ denied_key word blocked) (named (codes "name") path ∷ mask_words word bits blocked)
file_part word path bits blocked =
    part_joined (key (codes "name") (value path) ++ key (codes "requested_mask") (mask bits)) (denied_key word blocked) (named (codes "name") path ∷ word_field (codes "requested_mask") (letters bits) ∷ []) (denied_words word blocked)
    (two_parts (key (codes "name") (value path)) (key (codes "requested_mask") (mask bits)) (named (codes "name") path)
    (word_field (codes "requested_mask") (letters bits)) (name_part path) (asked_part bits) (key_stands (codes "requested_mask") (mask bits)))
    (denied_part word blocked) (denied_stands word blocked)

link_part : (word : NoteWord) (link target : List ℕ) (blocked : ℕ)
    → Part (key (codes "name") (value link) ++ key (codes "target") (value target) ++ key (codes "requested_mask") (mask 8) ++ denied_key word blocked)
    (named (codes "name") link ∷ named (codes "target") target ∷ mask_words word 8 blocked)
link_part word link target blocked =
    let names = key (codes "name") (value link) ++ key (codes "target") (value target) in
    part_joined (names ++ key (codes "requested_mask") (mask 8)) (denied_key word blocked) (named (codes "name") link ∷ named (codes "target") target ∷ word_field (codes "requested_mask") (letters 8) ∷ []) (denied_words word blocked)
    (part_joined names (key (codes "requested_mask") (mask 8)) (named (codes "name") link ∷ named (codes "target") target ∷ []) (word_field (codes "requested_mask") (letters 8) ∷ [])
    (two_parts (key (codes "name") (value link)) (key (codes "target") (value target)) (named (codes "name") link) (named (codes "target") target) (name_part link) (target_part target) (key_stands (codes "target") (value target)))
    (asked_part 8) (key_stands (codes "requested_mask") (mask 8)))
    (denied_part word blocked) (denied_stands word blocked)

granted_part : (granted : Bool) (target : List ℕ) → Part (cond granted (key (codes "target") (value target)) []) (target_words granted target)
granted_part true target = target_part target
granted_part false target = part_nothing

granted_stands : (granted : Bool) (target : List ℕ) → Stands (cond granted (key (codes "target") (value target)) [])
granted_stands true target = key_stands (codes "target") (value target)
granted_stands false target = λ more e. e

exec_part : (word : NoteWord) (granted : Bool) (path target : List ℕ)
    → Part (key (codes "name") (value path) ++ key (codes "requested_mask") (mask 64) ++ denied_key word 64 ++ cond granted
    (key (codes "target") (value target)) []) (named (codes "name") path ∷ (mask_words word 64 64 ++ target_words granted target))
exec_part word granted path target =
    part_joined (key (codes "name") (value path) ++ key (codes "requested_mask") (mask 64) ++ denied_key word 64)
    (cond granted (key (codes "target") (value target)) []) (named (codes "name") path ∷ mask_words word 64 64) (target_words granted target)
    (file_part word path 64 64) (granted_part granted target) (granted_stands granted target)

-- what begins with a name stands behind a space, whatever follows it
name_stands : (name more : List ℕ) → Stands (key (codes "name") (value name) ++ more)
unfolding key
name_stands name more rest e = refl

file_line : (word : NoteWord) (profile path : List ℕ) (bits blocked : ℕ) → is_own_name profile ≡ true → is_path_of_bytes path ≡ true → is_mask bits ≡ true
    → length (head_text word (codes "file") profile ++ (key (codes "name") (value path) ++ key (codes "requested_mask") (mask bits) ++ denied_key word blocked)) ≤ 65536
    → line_in (head_text word (codes "file") profile ++ (key (codes "name") (value path) ++ key (codes "requested_mask") (mask bits) ++ denied_key word blocked))
    ≡ AsksFor (own_record (became word) profile (File (record { path = path; mask = record { 0 = bits }; owned = false })))
file_line word profile path bits blocked h p m short =
    let front = key (codes "name") (value path) ++ key (codes "requested_mask") (mask bits) in
    own_from word (codes "file") profile (front ++ denied_key word blocked) (named (codes "name") path ∷ mask_words word bits blocked) (File (record { path = path; mask = record { 0 = bits }; owned = false })) refl
    (file_part word path bits blocked) (stands_joined front (denied_key word blocked) (name_stands path (key (codes "requested_mask") (mask bits))) (denied_stands word blocked)) (file_record word profile path bits blocked h p m) short

link_line : (word : NoteWord) (profile link target : List ℕ) (blocked : ℕ) → is_own_name profile ≡ true → is_path_of_bytes link ≡ true → is_path_of_bytes target ≡ true
    → length (head_text word (codes "link") profile ++ (key (codes "name") (value link) ++ key (codes "target") (value target) ++ key (codes "requested_mask") (mask 8) ++ denied_key word blocked)) ≤ 65536
    → line_in (head_text word (codes "link") profile ++ (key (codes "name") (value link) ++ key (codes "target") (value target) ++ key (codes "requested_mask") (mask 8) ++ denied_key word blocked))
    ≡ AsksFor (own_record (became word) profile (Link (record { link = link; target = target; owned = false })))
link_line word profile link target blocked h p q short =
    let names = key (codes "name") (value link) ++ key (codes "target") (value target) in
    let front = names ++ key (codes "requested_mask") (mask 8) in
    own_from word (codes "link") profile (front ++ denied_key word blocked) (named (codes "name") link ∷ named (codes "target") target ∷ mask_words word 8 blocked) (Link (record { link = link; target = target; owned = false })) refl
    (link_part word link target blocked)
    (stands_joined front (denied_key word blocked)
    (stands_joined names (key (codes "requested_mask") (mask 8)) (name_stands link (key (codes "target") (value target)))
    (key_stands (codes "requested_mask") (mask 8))) (denied_stands word blocked))
    (link_record word profile link target blocked h p q) short

exec_line : (word : NoteWord) (granted : Bool) (profile path target : List ℕ) → is_own_name profile ≡ true → is_path_of_bytes path ≡ true
    → length (head_text word (codes "exec") profile ++ (key (codes "name") (value path) ++ key (codes "requested_mask") (mask 64) ++ denied_key word 64 ++ cond granted (key (codes "target") (value target)) [])) ≤ 65536
    → line_in (head_text word (codes "exec") profile ++ (key (codes "name") (value path) ++ key (codes "requested_mask") (mask 64) ++ denied_key word 64 ++ cond granted (key (codes "target") (value target)) []))
    ≡ AsksFor (own_record (became word) profile (Exec (record { path = path; owned = false })))
exec_line word granted profile path target h p short =
    let front = key (codes "name") (value path) ++ key (codes "requested_mask") (mask 64) in
    own_from word (codes "exec") profile (front ++ denied_key word 64 ++ cond granted (key (codes "target") (value target)) [])
    (named (codes "name") path ∷ (mask_words word 64 64 ++ target_words granted target)) (Exec (record { path = path; owned = false })) refl
    (exec_part word granted path target)
    (stands_joined (front ++ denied_key word 64) (cond granted (key (codes "target") (value target)) [])
    (stands_joined front (denied_key word 64) (name_stands path (key (codes "requested_mask") (mask 64))) (denied_stands word 64))
    (granted_stands granted target))
    (exec_record word granted profile path target h p) short

cap_line : (word : NoteWord) (profile : List ℕ) (n : ℕ) → is_own_name profile ≡ true → nat_lt n (length capability_names) ≡ true
    → length (head_text word (codes "capable") profile ++ (key (codes "capability") (decimal n) ++ key (codes "capname") (quoted (entry capability_names n)))) ≤ 65536
    → line_in (head_text word (codes "capable") profile ++ (key (codes "capability") (decimal n) ++ key (codes "capname") (quoted (entry capability_names n)))) ≡ AsksFor (own_record (became word) profile (Cap n))
cap_line word profile n h l short =
    let both = and_parts (is_bare_text (decimal n)) (list_all is_quotable (entry capability_names n)) (cap_quotable n l) in
    let number = key (codes "capability") (decimal n) in
    let name = key (codes "capname") (quoted (entry capability_names n)) in
    own_from word (codes "capable") profile (number ++ name) (bare_field (codes "capability") (decimal n) ∷ word_field (codes "capname") (entry capability_names n) ∷ []) (Cap n) refl
    (two_parts number name (bare_field (codes "capability") (decimal n)) (word_field (codes "capname") (entry capability_names n))
    (part_bare (codes "capability") (decimal n) refl refl both.0) (part_quoted (codes "capname") (entry capability_names n) refl refl both.1)
    (key_stands (codes "capname") (quoted (entry capability_names n))))
    (stands_joined number name (key_stands (codes "capability") (decimal n)) (key_stands (codes "capname") (quoted (entry capability_names n)))) (cap_record word profile n h l) short

net_line : (word : NoteWord) (profile : List ℕ) (family kind : ℕ) → is_own_name profile ≡ true → nat_lt family (length family_names) ≡ true → nat_lt kind (length sock_type_names) ≡ true
    → bytes_eq (entry family_names family) (codes "unix") ≡ false
    → length (head_text word (codes "net") profile ++ (key (codes "family") (quoted (entry family_names family)) ++ key (codes "sock_type") (quoted (entry sock_type_names kind)))) ≤ 65536
    → line_in
    (head_text word (codes "net") profile ++
    (key (codes "family") (quoted (entry family_names family)) ++ key (codes "sock_type") (quoted (entry sock_type_names kind)))) ≡ AsksFor
    (own_record (became word) profile (Net family kind))
net_line word profile family kind h f k other short =
    let first = entry family_names family in
    let second = entry sock_type_names kind in
    let one = key (codes "family") (quoted first) in
    let two = key (codes "sock_type") (quoted second) in
    own_from word (codes "net") profile (one ++ two) (word_field (codes "family") first ∷ word_field (codes "sock_type") second ∷ []) (Net family kind) refl
    (two_parts one two (word_field (codes "family") first) (word_field (codes "sock_type") second)
    (part_quoted (codes "family") first refl refl (family_quotable family f)) (part_quoted (codes "sock_type") second refl refl (kind_quotable kind k))
    (key_stands (codes "sock_type") (quoted second)))
    (stands_joined one two (key_stands (codes "family") (quoted first)) (key_stands (codes "sock_type") (quoted second))) (net_record word profile family kind h f k other) short

change_line : (word : NoteWord) (profile name : List ℕ) → is_own_name profile ≡ true → are_bytes name ≡ true → is_wanted_name name ≡ true
    → length (head_text word (codes "change_profile") profile ++ key (codes "target") (value name)) ≤ 65536
    → line_in (head_text word (codes "change_profile") profile ++ key (codes "target") (value name)) ≡ AsksFor (own_record (became word) profile (Change name))
change_line word profile name h b w short =
    own_from word (codes "change_profile") profile (key (codes "target") (value name)) (named (codes "target") name ∷ []) (Change name) refl
    (target_part name) (key_stands (codes "target") (value name)) (change_record word profile name h b w) short

-- where an option is a value, what it holds is that value
some_is : {A : Type 0} (x y : A) (P : A → Type 0) → Some x ≡ Some y → P x → P y
some_is {A} x y P e p = subst P (ap (λ (o : Option A). unwrap_or o x) e) p

-- the law, at each operation
own_keys : (policies : List Policy) (request : Request) (answer : Answer) (n : Note) (profile : List ℕ) (operation text : List ℕ) → Some (head_text n.word operation profile ++ keys policies request answer n) ≡ Some text
    → length text ≤ 65536 →
    (length (head_text n.word operation profile ++ keys policies request answer n) ≤ 65536
    → line_in (head_text n.word operation profile ++ keys policies request answer n) ≡ AsksFor (own_record (became n.word) profile (unowned request)))
    → line_in text ≡ AsksFor (own_record (became n.word) profile (unowned request))
own_keys policies request answer n profile operation text e short so =
    some_is (head_text n.word operation profile ++ keys policies request answer n) text (λ t. length t ≤ 65536 → line_in t ≡ AsksFor (own_record (became n.word) profile (unowned request))) e so short

own_note : (policies : List Policy) (before : Label) (request : Request) (answer : Answer) (n : Note) (text : List ℕ) → note_line policies before request answer n ≡ Some text → length text ≤ 65536
    → is_own_name (label_name policies before) ≡ true → is_told request ≡ true → line_in text ≡ AsksFor (own_record (became n.word) (label_name policies before) (unowned request))
unfolding note_line
own_note policies before (File r) answer n text e short h told =
    let parts = and_parts (is_path_of_bytes r.path) (is_mask r.mask.0) told in
    own_keys policies (File r) answer n (label_name policies before) (codes "file") text e short (file_line n.word (label_name policies before) r.path r.mask.0 n.perms.0 h parts.0 parts.1)
own_note policies before (Link r) answer n text e short h told =
    let parts = and_parts (is_path_of_bytes r.link) (is_path_of_bytes r.target) told in
    own_keys policies (Link r) answer n (label_name policies before) (codes "link") text e short (link_line n.word (label_name policies before) r.link r.target n.perms.0 h parts.0 parts.1)
own_note policies before (Exec r) answer n text e short h told =
    own_keys policies (Exec r) answer n (label_name policies before) (codes "exec") text e short (exec_line n.word answer.granted (label_name policies before) r.path (label_name policies answer.label) h told)
own_note policies before (Cap c) answer n text e short h told =
    own_keys policies (Cap c) answer n (label_name policies before) (codes "capable") text e short (cap_line n.word (label_name policies before) c h told)
own_note policies before (Net family kind) answer n text e short h told =
    let parts = and_parts (nat_lt family (length family_names) && nat_lt kind (length sock_type_names)) (not (bytes_eq (entry family_names family) (codes "unix"))) told in
    let both = and_parts (nat_lt family (length family_names)) (nat_lt kind (length sock_type_names)) parts.0 in
    own_keys policies (Net family kind) answer n (label_name policies before) (codes "net") text e short
    (net_line n.word (label_name policies before) family kind h both.0 both.1 (not_true (bytes_eq (entry family_names family) (codes "unix")) parts.1))
own_note policies before (Change name) answer n text e short h told =
    let parts = and_parts (are_bytes name) (is_wanted_name name) told in
    own_keys policies (Change name) answer n (label_name policies before) (codes "change_profile") text e short (change_line n.word (label_name policies before) name h parts.0 parts.1)
own_note policies before (Reload k) answer n text e short h told = absurd (true≢false (sym told))

pub own_lines : OwnLinesAreRead
own_lines policies before request answer n text noted e short h told =
    own_note policies before request answer n text (ap (option_and_then (note_line policies before request answer)) (sym noted) ∙ e) short h told
