-- The text of each request, read back.
use Rattle.std.proofs.Common.{◌≡◌, ℕ, ◌<◌, ◌≤◌, Bool, true, false, not, ◌&&◌, ◌||◌, ◌==◌, List, ◌++◌, length, cond, refl, sym}
use Rattle.std.proofs.Common.{◌∙◌, ap, ap₂, arith, codes, nat_le, bit_and, unwrap_or, IsUtf8, Option, Some, None, option_map, Ok, true≢false}
use Rattle.std.specs.List.{list_all}
use Rattle.std.specs.Str.{is_utf8, bytes_eq}
use Rattle.std.proofs.lemmas.Bool.{agree_below_at, and_parts, eqb-true, leb-true, lt-ltb}
use Rattle.std.proofs.lemmas.Str.{IsUtf8-from_is_utf8, is_utf8-from_IsUtf8}
use Rattle.std.proofs.lemmas.Slice.Eq.{bytes_eq-Decides}
use Rattle.json.proofs.Printed.Utf8.{are_ascii, IsUtf8-are_ascii}
use Rattle.json.specs.Print.{quoted, escape_byte}
use Rattle.serde_json.specs.Data.{unsigned, Data, boolean, number, string, object, Members, no_members, member, depth, members_depth}
use Rattle.serde_json.specs.Written.{compact_text, members_text}
use Rattle.aa_base.specs.Tables.{entry, number_in, capability_names, family_names, sock_type_names}
use Rattle.aa_model.specs.Requests.{is_mask}
use Rattle.aa_model.specs.declared.request.Request.{Request}
use Rattle.aa_model.specs.declared.request.Request.TheVariants.{File, Link, Exec, Cap, Net, Change, Reload}
use Rattle.aa_base.specs.Values.{letters, mask, quoted as between_quotes}
use Rattle.aa_text.specs.Jsons.{json_text, in_digits, json_bytes, key_text}
use Rattle.aa_notation.specs.Requests.{member as member_text, owned_end, mask_member, single}
use Rattle.aa_notation.specs.Kinds.{file_text, exec_text, link_text, net_text, reload_text, request_text, has_text}
use Rattle.aa_jobs.specs.declared.job.Work.TheVariants.{Ask}
use Rattle.aa_jobs.specs.Written.{WrittenItem, file_item, link_item, exec_item, cap_item, net_item, change_item, reload_item}
use Rattle.aa_jobs.specs.Shape.{item_shape, request_shape, file_shape, link_shape, exec_shape, cap_shape, net_shape, change_shape, reload_shape}
use Rattle.aa_jobs.specs.Meaning.{is_letter, mask_bits, work_of}
use Rattle.aa_text.specs.Again.{IsPlain, HasPlain, settled}
use Rattle.aa_round_trip_laws.specs.Kinds.{CanBeMade}
use Rattle.aa_round_trip_laws.proofs.Regrouped.{of_four, of_five}

abbrev owned_members : Bool → Members
owned_members true = member (codes "owned") (boolean true) no_members
owned_members false = no_members

-- the value that a request is written as
abbrev pub request_data : Request → Data
request_data (File f) = object (member (codes "file") (string f.path) (member (codes "mask") (string (letters f.mask.0)) (owned_members f.owned)))
request_data (Link l) = object (member (codes "link") (string l.link) (member (codes "to") (string l.target) (owned_members l.owned)))
request_data (Exec e) = object (member (codes "exec") (string e.path) (owned_members e.owned))
request_data (Cap c) = object (member (codes "cap") (string (entry capability_names c)) no_members)
request_data (Net family kind) = object (member (codes "net") (string (entry family_names family)) (member (codes "type") (string (entry sock_type_names kind)) no_members))
request_data (Change name) = object (member (codes "change") (string name) no_members)
request_data (Reload policy) = object (member (codes "reload") (number (unsigned policy)) no_members)

-- what that value says
abbrev pub written_item : Request → WrittenItem
written_item (File f) = file_item f.path (letters f.mask.0) f.owned
written_item (Link l) = link_item l.link l.target l.owned
written_item (Exec e) = exec_item e.path e.owned
written_item (Cap c) = cap_item (entry capability_names c)
written_item (Net family kind) = net_item (entry family_names family) (entry sock_type_names kind)
written_item (Change name) = change_item name
written_item (Reload policy) = reload_item policy

-- ---- tables and sets, one by one

abbrev is_found : List (List ℕ) → ℕ → Bool
is_found names n = unwrap_or (option_map (λ m. m == n) (number_in names (entry names n))) false

found : (n : ℕ) (o : Option ℕ) → unwrap_or (option_map (λ m. m == n) o) false ≡ true → o ≡ Some n
found n None e = absurd (true≢false (sym e))
found n (Some m) e = ap Some (eqb-true m n e)

-- each name of a table is ASCII, and found at its number
abbrev is_table : List (List ℕ) → ℕ → Bool
is_table names n = are_ascii (entry names n) && is_found names n

capabilities : (c : ℕ) → c < length capability_names → is_table capability_names c ≡ true
unfolding capability_names
capabilities c below = agree_below_at (is_table capability_names) (λ _. true) (length capability_names) c refl below

families : (f : ℕ) → f < length family_names → is_table family_names f ≡ true
unfolding family_names
families f below = agree_below_at (is_table family_names) (λ _. true) (length family_names) f refl below

types : (k : ℕ) → k < length sock_type_names → is_table sock_type_names k ≡ true
unfolding sock_type_names
types k below = agree_below_at (is_table sock_type_names) (λ _. true) (length sock_type_names) k refl below

name_utf8 : (names : List (List ℕ)) (n : ℕ) → is_table names n ≡ true → IsUtf8 (entry names n)
name_utf8 names n e = IsUtf8-are_ascii (entry names n) (and_parts _ _ e).0

name_found : (names : List (List ℕ)) (n : ℕ) → is_table names n ≡ true → number_in names (entry names n) ≡ Some n
name_found names n e = found n (number_in names (entry names n)) (and_parts (are_ascii (entry names n)) (is_found names n) e).1

-- the letters of a set that is asked for are ASCII, need no escape, and are read as that set
abbrev is_set : ℕ → Bool
is_set bits = not (is_mask bits) || (are_ascii (letters bits) && (bytes_eq (quoted (letters bits)) (mask bits) && (list_all is_letter (letters bits) && mask_bits (letters bits) == bits)))

sets : (bits : ℕ) → bits < 128 → is_set bits ≡ true
unfolding letters between_quotes escape_byte
sets bits below = agree_below_at is_set (λ _. true) 128 bits refl below

record Letters (bits : ℕ) : Type 0 where
  ascii : are_ascii (letters bits) ≡ true
  same : quoted (letters bits) ≡ mask bits
  known : list_all is_letter (letters bits) ≡ true
  read : mask_bits (letters bits) ≡ bits

letters_of : (bits : ℕ) → is_mask bits ≡ true → Letters bits
letters_of bits m =
    let below : bits < 128 = omega (arith, leb-true bits 127 (and_parts (not (bits == 0) && bit_and bits 72 == 0) (nat_le bits 127) m).1) in
    let all = and_parts _ _ (ap (λ b. not b || (are_ascii (letters bits) && (bytes_eq (quoted (letters bits)) (mask bits) && (list_all is_letter (letters bits) && mask_bits (letters bits) == bits)))) (sym m) ∙ sets bits below) in
    let more = and_parts _ _ all.1 in
    let last = and_parts _ _ more.1 in
    record { ascii = all.0; same = (bytes_eq-Decides _ _).0 more.0; known = last.0; read = eqb-true _ _ last.1 }

-- ---- a request is written as its value

-- a text that is UTF-8 stands between quotes
pub plain_text : (text : List ℕ) → IsUtf8 text → json_bytes text ≡ quoted text
unfolding json_bytes json_text
plain_text text u = ap (λ (b : Bool). cond b (json_text text) (in_digits text)) (is_utf8-from_IsUtf8 text u)

table_text : (names : List (List ℕ)) (n : ℕ) → is_table names n ≡ true → json_bytes (entry names n) ≡ quoted (entry names n)
table_text names n e = plain_text (entry names n) (name_utf8 names n e)

pub utf8 : (text : List ℕ) → is_utf8 text ≡ true → json_bytes text ≡ quoted text
utf8 text u = plain_text text (IsUtf8-from_is_utf8 text u)

owned_written : (owned : Bool) → owned_end owned ≡ members_text true (owned_members owned)
unfolding owned_end escape_byte
owned_written true = refl
owned_written false = refl

file_written : (path : List ℕ) (bits : ℕ) (owned : Bool) → json_bytes path ≡ quoted path → mask bits ≡ quoted (letters bits)
    → file_text (record { path = path; mask = record { 0 = bits }; owned = owned }) ≡ compact_text (object (member (codes "file") (string path) (member (codes "mask") (string (letters bits)) (owned_members owned))))
unfolding file_text mask_member member_text key_text escape_byte
file_written path bits owned p m =
    of_four (codes "{") (member_text (codes "file") path) (mask_member bits) (owned_end owned)
    ∙ (ap₂ (λ a b. codes "{" ++ ((key_text (codes "file") ++ a) ++ ((codes "," ++ (key_text (codes "mask") ++ b)) ++ owned_end owned))) p m
    ∙ ap (λ l. codes "{" ++ ((key_text (codes "file") ++ quoted path) ++ ((codes "," ++ (key_text (codes "mask") ++ quoted (letters bits))) ++ l))) (owned_written owned))

link_written : (path target : List ℕ) (owned : Bool) → json_bytes path ≡ quoted path → json_bytes target ≡ quoted target
    → link_text (record { link = path; target = target; owned = owned }) ≡ compact_text (object (member (codes "link") (string path) (member (codes "to") (string target) (owned_members owned))))
unfolding link_text member_text key_text escape_byte
link_written path target owned p t =
    of_five (codes "{") (member_text (codes "link") path) (codes ",") (member_text (codes "to") target) (owned_end owned)
    ∙ (ap₂ (λ a b. codes "{" ++ ((key_text (codes "link") ++ a) ++ (codes "," ++ ((key_text (codes "to") ++ b) ++ owned_end owned)))) p t
    ∙ ap (λ l. codes "{" ++ ((key_text (codes "link") ++ quoted path) ++ (codes "," ++ ((key_text (codes "to") ++ quoted target) ++ l)))) (owned_written owned))

exec_written : (path : List ℕ) (owned : Bool) → json_bytes path ≡ quoted path → exec_text (record { path = path; owned = owned }) ≡ compact_text (object (member (codes "exec") (string path) (owned_members owned)))
unfolding exec_text member_text key_text escape_byte
exec_written path owned p = ap₂ (λ a l. codes "{" ++ ((key_text (codes "exec") ++ a) ++ l)) p (owned_written owned)

cap_written : (name : List ℕ) → json_bytes name ≡ quoted name → single (codes "cap") name ≡ compact_text (object (member (codes "cap") (string name) no_members))
unfolding single member_text key_text escape_byte
cap_written name e = ap (λ l. codes "{" ++ ((key_text (codes "cap") ++ l) ++ codes "}")) e

change_written : (name : List ℕ) → json_bytes name ≡ quoted name → single (codes "change") name ≡ compact_text (object (member (codes "change") (string name) no_members))
unfolding single member_text key_text escape_byte
change_written name e = ap (λ l. codes "{" ++ ((key_text (codes "change") ++ l) ++ codes "}")) e

net_written : (family kind : ℕ) → json_bytes (entry family_names family) ≡ quoted (entry family_names family) → json_bytes (entry sock_type_names kind) ≡ quoted (entry sock_type_names kind)
    → net_text family kind ≡ compact_text (object (member (codes "net") (string (entry family_names family)) (member (codes "type") (string (entry sock_type_names kind)) no_members)))
unfolding net_text member_text key_text escape_byte
net_written family kind f k =
    of_five (codes "{") (member_text (codes "net") (entry family_names family)) (codes ",") (member_text (codes "type") (entry sock_type_names kind)) (codes "}")
    ∙ ap₂ (λ a b. codes "{" ++ ((key_text (codes "net") ++ a) ++ (codes "," ++ ((key_text (codes "type") ++ b) ++ codes "}")))) f k

pub request_written : (policies : ℕ) (r : Request) → CanBeMade policies r → has_text r ≡ true → request_text r ≡ compact_text (request_data r)
unfolding reload_text key_text escape_byte
request_written n (File f) c u = file_written f.path f.mask.0 f.owned (utf8 f.path u) (sym (letters_of f.mask.0 c.1).same)
request_written n (Link l) c u = let both = and_parts (is_utf8 l.link) (is_utf8 l.target) u in link_written l.link l.target l.owned (utf8 l.link both.0) (utf8 l.target both.1)
request_written n (Exec e) c u = exec_written e.path e.owned (utf8 e.path u)
request_written n (Cap c) below u = cap_written (entry capability_names c) (table_text capability_names c (capabilities c below))
request_written n (Net family kind) below u = net_written family kind (table_text family_names family (families family below.0)) (table_text sock_type_names kind (types kind below.1))
request_written n (Change name) c u = change_written name (utf8 name u)
request_written n (Reload policy) c u = refl

-- ---- that value is read, and means the request

owned_plain : (owned : Bool) → HasPlain (owned_members owned)
owned_plain true = (IsUtf8-are_ascii (codes "owned") refl, tt, tt)
owned_plain false = tt

pub request_plain : (policies : ℕ) (r : Request) → CanBeMade policies r → policies ≤ 16 → has_text r ≡ true → IsPlain (request_data r)
request_plain n (File f) c few u =
    (IsUtf8-are_ascii (codes "file") refl, IsUtf8-from_is_utf8 f.path u, (IsUtf8-are_ascii (codes "mask") refl, IsUtf8-are_ascii (letters f.mask.0) (letters_of f.mask.0 c.1).ascii, owned_plain f.owned))
request_plain n (Link l) c few u =
    let both = and_parts (is_utf8 l.link) (is_utf8 l.target) u in
    (IsUtf8-are_ascii (codes "link") refl, IsUtf8-from_is_utf8 l.link both.0, (IsUtf8-are_ascii (codes "to") refl, IsUtf8-from_is_utf8 l.target both.1, owned_plain l.owned))
request_plain n (Exec e) c few u = (IsUtf8-are_ascii (codes "exec") refl, IsUtf8-from_is_utf8 e.path u, owned_plain e.owned)
request_plain n (Cap c) below few u = (IsUtf8-are_ascii (codes "cap") refl, name_utf8 capability_names c (capabilities c below), tt)
request_plain n (Net family kind) below few u =
    (IsUtf8-are_ascii (codes "net") refl, name_utf8 family_names family (families family below.0), (IsUtf8-are_ascii (codes "type") refl, name_utf8 sock_type_names kind (types kind below.1), tt))
request_plain n (Change name) c few u = (IsUtf8-are_ascii (codes "change") refl, IsUtf8-from_is_utf8 name u, tt)
request_plain n (Reload policy) c few u = (IsUtf8-are_ascii (codes "reload") refl, omega (arith, c, few), tt)

owned_shallow : (owned : Bool) → members_depth (owned_members owned) ≡ 0
owned_shallow true = refl
owned_shallow false = refl

pub request_shallow : (r : Request) → depth (request_data r) ≡ 1
request_shallow (File f) = omega (arith, owned_shallow f.owned)
request_shallow (Link l) = omega (arith, owned_shallow l.owned)
request_shallow (Exec e) = omega (arith, owned_shallow e.owned)
request_shallow (Cap c) = refl
request_shallow (Net family kind) = refl
request_shallow (Change name) = refl
request_shallow (Reload policy) = refl

file_shaped : (path letters : List ℕ) (owned : Bool)
    → item_shape (settled (object (member (codes "file") (string path) (member (codes "mask") (string letters) (owned_members owned))))) ≡ Ok (file_item path letters owned)
unfolding request_shape file_shape
file_shaped path letters true = refl
file_shaped path letters false = refl

link_shaped : (path target : List ℕ) (owned : Bool)
    → item_shape (settled (object (member (codes "link") (string path) (member (codes "to") (string target) (owned_members owned))))) ≡ Ok (link_item path target owned)
unfolding request_shape link_shape
link_shaped path target true = refl
link_shaped path target false = refl

exec_shaped : (path : List ℕ) (owned : Bool) → item_shape (settled (object (member (codes "exec") (string path) (owned_members owned)))) ≡ Ok (exec_item path owned)
unfolding request_shape exec_shape
exec_shaped path true = refl
exec_shaped path false = refl

pub request_shaped : (r : Request) → item_shape (settled (request_data r)) ≡ Ok (written_item r)
unfolding request_shape cap_shape net_shape change_shape reload_shape
request_shaped (File f) = file_shaped f.path (letters f.mask.0) f.owned
request_shaped (Link l) = link_shaped l.link l.target l.owned
request_shaped (Exec e) = exec_shaped e.path e.owned
request_shaped (Cap c) = refl
request_shaped (Net family kind) = refl
request_shaped (Change name) = refl
request_shaped (Reload policy) = refl

pub request_means : (policies : ℕ) (r : Request) → CanBeMade policies r → work_of policies (written_item r) ≡ Ok (Ask r)
unfolding work_of
request_means n (File f) c =
    let l = letters_of f.mask.0 c.1 in
    rw l.read (rw l.known (rw c.0 (rw c.1 refl)))
request_means n (Link l) c = rw c.0 (rw c.1 refl)
request_means n (Exec e) c = rw c refl
request_means n (Cap c) below = rw (name_found capability_names c (capabilities c below)) refl
request_means n (Net family kind) below =
    rw (name_found family_names family (families family below.0)) (rw (name_found sock_type_names kind (types kind below.1)) refl)
request_means n (Change name) c = rw c refl
request_means n (Reload policy) below = rw (lt-ltb policy n below) refl
