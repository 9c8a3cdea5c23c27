-- The word of each request, read back.
use Rattle.std.proofs.Common.{◌≡◌, ℕ, ◌<◌, ◌≤◌, Bool, true, false, not, ◌&&◌, ◌||◌, ◌==◌, List, [], ◌∷◌, ◌++◌, length}
use Rattle.std.proofs.Common.{cond, refl, sym, ◌∙◌, ap, arith, codes, flat_map, nat_lt, nat_le, bit_and, option_map, option_and_then, Option, Some, None}
use Rattle.std.proofs.Common.{true≢false}
use Rattle.std.specs.List.{list_all, list_any}
use Rattle.std.specs.Str.{bytes_eq}
use Rattle.std.proofs.lemmas.Bool.{and_parts, and_from, agree_below_at, ltb-true, leb-true}
use Rattle.aa_base.specs.Tables.{number_in, capability_names, family_names, sock_type_names}
use Rattle.aa_model.specs.Requests.{is_path, is_mask, is_wanted_name}
use Rattle.aa_model.specs.declared.request.Request.{Request}
use Rattle.aa_model.specs.declared.request.Request.TheVariants.{File, Link, Exec, Cap, Net, Change, Reload}
use Rattle.aa_base.specs.Hex.{hex_pair}
use Rattle.aa_base.specs.Values.{letters}
use Rattle.aa_base.specs.Tables.{entry}
use Rattle.aa_notation.specs.Parts.{place_of, behind, are_bytes, is_path_of_bytes}
use Rattle.aa_notation.specs.Written.{is_visible, path_text}
use Rattle.aa_notation.specs.Read.{hex_in, path_in, letters_in, or_else}
use Rattle.aa_notation.specs.Kinds.{file_word, exec_word, link_word, cap_word, net_word}
use Rattle.aa_notation.specs.Kinds.{file_by, file_in, exec_by, exec_in, link_by, link_in, cap_in, net_by, net_in, change_in, object_by, object_in, request_in}
use Rattle.aa_notation.specs.Again.{WordsAreRead}
use Rattle.aa_notation.proofs.Splits.{not_true, split_byte, split_arrow, not_behind}
use Rattle.aa_notation.proofs.Paths.{is_found, found_back, hex_back, path_back, arrowless}

-- what begins with none of the first bytes of other words is a word of an object
object_else : (b : ℕ) (rest : List ℕ) → (111 == b) ≡ false → (99 == b) ≡ false → (110 == b) ≡ false → request_in false (b ∷ rest) ≡ object_in false (b ∷ rest)
unfolding request_in
object_else b rest o c n =
    let word = b ∷ rest in
    let fifth = or_else (behind (codes "change=") word) (λ text. option_and_then change_in (hex_in text)) (object_in false word) in
    let fourth = or_else (behind (codes "change:") word) change_in fifth in
    let third = or_else (behind (codes "net:") word) net_in fourth in
    let second = or_else (behind (codes "cap:") word) cap_in third in
    let other = or_else (behind (codes "other:") word) (object_in false) second in
    ap (λ (t : Option (List ℕ)). or_else t (object_in true) other) (not_behind 111 (codes "wned:") b rest o)
    ∙ (ap (λ (t : Option (List ℕ)). or_else t (object_in false) second) (not_behind 111 (codes "ther:") b rest o)
    ∙ (ap (λ (t : Option (List ℕ)). or_else t cap_in third) (not_behind 99 (codes "ap:") b rest c)
    ∙ (ap (λ (t : Option (List ℕ)). or_else t net_in fourth) (not_behind 110 (codes "et:") b rest n)
    ∙ (ap (λ (t : Option (List ℕ)). or_else t change_in fifth) (not_behind 99 (codes "hange:") b rest c)
    ∙ ap (λ (t : Option (List ℕ)). or_else t (λ text. option_and_then change_in (hex_in text)) (object_in false word)) (not_behind 99 (codes "hange=") b rest c)))))

-- letters that begin no other word
abbrev begins_object : List ℕ → Bool
begins_object [] = false
begins_object (b ∷ bs) = not (111 == b) && not (99 == b) && not (110 == b)

object_so : (front back : List ℕ) → begins_object front ≡ true → request_in false ((front ++ 58 ∷ []) ++ back) ≡ object_in false ((front ++ 58 ∷ []) ++ back)
object_so [] back h = absurd (true≢false (sym h))
object_so (b ∷ bs) back h =
    let parts = and_parts (not (111 == b) && not (99 == b)) (not (110 == b)) h in
    let first = and_parts (not (111 == b)) (not (99 == b)) parts.0 in
    object_else b ((bs ++ 58 ∷ []) ++ back) (not_true (111 == b) first.0) (not_true (99 == b) first.1) (not_true (110 == b) parts.1)

-- what the letters of each mask are
abbrev is_mask_text : List ℕ → ℕ → Bool
is_mask_text text bits = begins_object text && list_all (λ b. not (58 == b)) text && not (bytes_eq text (codes "x")) && not (bytes_eq text (codes "l")) && is_found (letters_in 0 text) bits

pub either : (a b : Bool) → (not a || b) ≡ true → a ≡ true → b ≡ true
either true b h e = h
either false b h e = absurd (true≢false (sym e))

letters_are : (bits : ℕ) → is_mask bits ≡ true → is_mask_text (letters bits) bits ≡ true
unfolding letters letters_in
letters_are bits h =
    let most : bits ≤ 127 = leb-true bits 127 (and_parts (not (bits == 0) && bit_and bits 72 == 0) (nat_le bits 127) h).1 in
    let below : bits < 128 = omega arith in
    either (is_mask bits) (is_mask_text (letters bits) bits) (agree_below_at (λ n. not (is_mask n) || is_mask_text (letters n) n) (λ n. true) 128 bits refl below) h

file_object : (owned : Bool) (path : List ℕ) (bits : ℕ) → is_path_of_bytes path ≡ true → is_mask bits ≡ true
    → object_in owned ((letters bits ++ 58 ∷ []) ++ path_text false path) ≡ Some (File (record { path = path; mask = record { 0 = bits }; owned = owned }))
file_object owned path bits p m =
    let text = letters bits in
    let all = and_parts (begins_object text && list_all (λ b. not (58 == b)) text && not (bytes_eq text (codes "x")) && not (bytes_eq text (codes "l"))) (is_found (letters_in 0 text) bits) (letters_are bits m) in
    let four = and_parts (begins_object text && list_all (λ b. not (58 == b)) text && not (bytes_eq text (codes "x"))) (not (bytes_eq text (codes "l"))) all.0 in
    let three = and_parts (begins_object text && list_all (λ b. not (58 == b)) text) (not (bytes_eq text (codes "x"))) four.0 in
    let two = and_parts (begins_object text) (list_all (λ b. not (58 == b)) text) three.0 in
    let asks : Option Request = Some (File (record { path = path; mask = record { 0 = bits }; owned = owned })) in
    let word = path_text false path in
    ap (λ (o : Option (List ℕ × List ℕ)). option_and_then (λ s. object_by owned s.0 s.1) o) (split_byte 58 text word refl two.1)
    ∙ (ap (λ (t : Bool). cond t (exec_in owned word) (cond (bytes_eq text (codes "l")) (link_in owned word) (file_in owned text word))) (not_true (bytes_eq text (codes "x")) three.1)
    ∙ (ap (λ (t : Bool). cond t (link_in owned word) (file_in owned text word)) (not_true (bytes_eq text (codes "l")) four.1)
    ∙ (ap (λ (o : Option (List ℕ)). file_by owned o (letters_in 0 text)) (path_back false path p)
    ∙ (ap (file_by owned (Some path)) (found_back (letters_in 0 text) bits all.1)
    ∙ ap (λ (t : Bool). cond t asks None) (and_from (is_path path) (is_mask bits) (and_parts (are_bytes path) (is_path path) p).1 m)))))

mask_begins : (bits : ℕ) → is_mask bits ≡ true → begins_object (letters bits) ≡ true
mask_begins bits m =
    let text = letters bits in
    let all = and_parts (begins_object text && list_all (λ b. not (58 == b)) text && not (bytes_eq text (codes "x")) && not (bytes_eq text (codes "l"))) (is_found (letters_in 0 text) bits) (letters_are bits m) in
    let four = and_parts (begins_object text && list_all (λ b. not (58 == b)) text && not (bytes_eq text (codes "x"))) (not (bytes_eq text (codes "l"))) all.0 in
    let three = and_parts (begins_object text && list_all (λ b. not (58 == b)) text) (not (bytes_eq text (codes "x"))) four.0 in
    (and_parts (begins_object text) (list_all (λ b. not (58 == b)) text) three.0).0

file_again : (owned : Bool) (path : List ℕ) (bits : ℕ) → is_path_of_bytes path ≡ true → is_mask bits ≡ true
    → request_in false (file_word (record { path = path; mask = record { 0 = bits }; owned = owned })) ≡ Some (File (record { path = path; mask = record { 0 = bits }; owned = owned }))
unfolding request_in
file_again true path bits p m = file_object true path bits p m
file_again false path bits p m = object_so (letters bits) (path_text false path) (mask_begins bits m) ∙ file_object false path bits p m

exec_back : (owned : Bool) (path : List ℕ) → is_path_of_bytes path ≡ true → exec_in owned (path_text false path) ≡ Some (Exec (record { path = path; owned = owned }))
exec_back owned path p =
    ap (exec_by owned) (path_back false path p) ∙ ap (λ (t : Bool). cond t (Some (Exec (record { path = path; owned = owned }))) None) (and_parts (are_bytes path) (is_path path) p).1

exec_again : (owned : Bool) (path : List ℕ) → is_path_of_bytes path ≡ true → request_in false (exec_word (record { path = path; owned = owned })) ≡ Some (Exec (record { path = path; owned = owned }))
unfolding request_in place_of
exec_again true path p = exec_back true path p
exec_again false path p = exec_back false path p

link_back : (owned : Bool) (link target : List ℕ) → is_path_of_bytes link ≡ true → is_path_of_bytes target ≡ true
    → link_in owned ((path_text true link ++ codes "->") ++ path_text false target) ≡ Some (Link (record { link = link; target = target; owned = owned }))
link_back owned link target p q =
    ap (λ (o : Option (List ℕ × List ℕ)). option_and_then (λ s. link_by owned (path_in s.0) (path_in s.1)) o) (split_arrow (path_text true link) (path_text false target) (arrowless link))
    ∙ (ap (λ (o : Option (List ℕ)). link_by owned o (path_in (path_text false target))) (path_back true link p)
    ∙ (ap (link_by owned (Some link)) (path_back false target q)
    ∙ ap (λ (t : Bool). cond t (Some (Link (record { link = link; target = target; owned = owned }))) None)
    (and_from (is_path link) (is_path target) (and_parts (are_bytes link) (is_path link) p).1 (and_parts (are_bytes target) (is_path target) q).1)))

link_again : (owned : Bool) (link target : List ℕ) → is_path_of_bytes link ≡ true → is_path_of_bytes target ≡ true
    → request_in false (link_word (record { link = link; target = target; owned = owned })) ≡ Some (Link (record { link = link; target = target; owned = owned }))
unfolding request_in place_of
link_again true link target p q = link_back true link target p q
link_again false link target p q = link_back false link target p q

cap_number : (n : ℕ) → nat_lt n (length capability_names) ≡ true → number_in capability_names (entry capability_names n) ≡ Some n
unfolding capability_names
cap_number n h = found_back (number_in capability_names (entry capability_names n)) n (agree_below_at (λ m. is_found (number_in capability_names (entry capability_names m)) m) (λ m. true) 41 n refl (ltb-true n 41 h))

family_number : (n : ℕ) → nat_lt n (length family_names) ≡ true → number_in family_names (entry family_names n) ≡ Some n
unfolding family_names
family_number n h = found_back (number_in family_names (entry family_names n)) n (agree_below_at (λ m. is_found (number_in family_names (entry family_names m)) m) (λ m. true) 44 n refl (ltb-true n 44 h))

family_slashless : (n : ℕ) → nat_lt n (length family_names) ≡ true → list_all (λ b. not (47 == b)) (entry family_names n) ≡ true
unfolding family_names
family_slashless n h = agree_below_at (λ m. list_all (λ b. not (47 == b)) (entry family_names m)) (λ m. true) 44 n refl (ltb-true n 44 h)

kind_number : (n : ℕ) → nat_lt n (length sock_type_names) ≡ true → number_in sock_type_names (entry sock_type_names n) ≡ Some n
unfolding sock_type_names
kind_number n h = found_back (number_in sock_type_names (entry sock_type_names n)) n (agree_below_at (λ m. is_found (number_in sock_type_names (entry sock_type_names m)) m) (λ m. true) 6 n refl (ltb-true n 6 h))

cap_again : (n : ℕ) → nat_lt n (length capability_names) ≡ true → request_in false (cap_word n) ≡ Some (Cap n)
unfolding request_in
cap_again n h = ap (λ (o : Option ℕ). option_map Cap o) (cap_number n h)

net_back : (family kind : ℕ) → nat_lt family (length family_names) ≡ true → nat_lt kind (length sock_type_names) ≡ true
    → net_in ((entry family_names family ++ codes "/") ++ entry sock_type_names kind) ≡ Some (Net family kind)
net_back family kind f k =
    ap (λ (o : Option (List ℕ × List ℕ)). option_and_then (λ s. net_by (number_in family_names s.0) (number_in sock_type_names s.1)) o)
    (split_byte 47 (entry family_names family) (entry sock_type_names kind) refl (family_slashless family f))
    ∙ (ap (λ (o : Option ℕ). net_by o (number_in sock_type_names (entry sock_type_names kind))) (family_number family f)
    ∙ ap (net_by (Some family)) (kind_number kind k))

net_again : (family kind : ℕ) → nat_lt family (length family_names) ≡ true → nat_lt kind (length sock_type_names) ≡ true → request_in false (net_word family kind) ≡ Some (Net family kind)
unfolding request_in
net_again family kind f k = net_back family kind f k

wanted_some : (name : List ℕ) → is_wanted_name name ≡ true → not (length name == 0) ≡ true
wanted_some name h =
    let front = and_parts (not (length name == 0) && not (list_any (λ b. b == 0) name)) (nat_le (length name) 1024) h in
    (and_parts (not (length name == 0)) (not (list_any (λ b. b == 0) name)) front.0).0

change_by : (t : Bool) (name : List ℕ) → are_bytes name ≡ true → is_wanted_name name ≡ true → request_in false (cond t (codes "change:" ++ name) (codes "change=" ++ flat_map hex_pair name)) ≡ Some (Change name)
unfolding request_in
change_by true name b w = ap (λ (t : Bool). cond t (Some (Change name)) None) w
change_by false name b w = ap (λ (o : Option (List ℕ)). option_and_then change_in o) (hex_back name (wanted_some name w) b) ∙ ap (λ (t : Bool). cond t (Some (Change name)) None) w

pub words_are_read : WordsAreRead
words_are_read (File r) h =
    let parts = and_parts (is_path_of_bytes r.path) (is_mask r.mask.0) h in
    file_again r.owned r.path r.mask.0 parts.0 parts.1
words_are_read (Link r) h =
    let parts = and_parts (is_path_of_bytes r.link) (is_path_of_bytes r.target) h in
    link_again r.owned r.link r.target parts.0 parts.1
words_are_read (Exec r) h = exec_again r.owned r.path h
words_are_read (Cap n) h = cap_again n h
words_are_read (Net family kind) h =
    let parts = and_parts (nat_lt family (length family_names)) (nat_lt kind (length sock_type_names)) h in
    net_again family kind parts.0 parts.1
words_are_read (Change name) h =
    let parts = and_parts (are_bytes name) (is_wanted_name name) h in
    change_by (list_all is_visible name) name parts.0 parts.1
words_are_read (Reload k) h = absurd (true≢false (sym h))
