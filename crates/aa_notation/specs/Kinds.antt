-- What differs by the kind of a request: for each kind its word, written and read, and its item of a task's list in a job.
-- Source: apparmor.d(5), "Access Modes"; JSON; own.
use Rattle.std.specs.Prelude.{ℕ, ◌&&◌, nat_lt, List, ◌++◌, length, Bool, true, false, if◌then◌else◌}
use Rattle.std.specs.Prelude.{codes, decimal, flat_map, Option, Some, None, option_map, option_and_then}
use Rattle.std.specs.List.{list_all}
use Rattle.std.specs.Str.{bytes_eq, is_utf8}
use Rattle.aa_base.specs.Tables.{entry, number_in, capability_names, family_names, sock_type_names}
use Rattle.aa_base.specs.Hex.{hex_pair}
use Rattle.aa_base.specs.Values.{letters}
use Rattle.aa_text.specs.Jsons.{key_text}
use Rattle.aa_model.specs.Requests.{is_path, is_mask, is_wanted_name, RequestedFile, RequestedLink, RequestedExec}
use Rattle.aa_model.specs.declared.request.Request.{Request}
use Rattle.aa_model.specs.declared.request.Request.TheVariants.{File, Link, Exec, Cap, Net, Change, Reload}
use Rattle.aa_notation.specs.Parts.{split_in, behind, are_bytes, is_path_of_bytes}
use Rattle.aa_notation.specs.Written.{is_visible, path_text, owned_text}
use Rattle.aa_notation.specs.Read.{hex_in, path_in, letters_in, or_else}
use Rattle.aa_notation.specs.Requests.{member, owned_end, mask_member, single}

-- the word of a request for a file
abbrev pub file_word : RequestedFile → List ℕ
file_word r = owned_text r.owned ++ letters r.mask.0 ++ codes ":" ++ path_text false r.path

-- the request for a file, of a path and a mask that can be asked for
abbrev pub file_by : Bool → Option (List ℕ) → Option ℕ → Option Request
file_by owned None bits = None
file_by owned (Some path) None = None
file_by owned (Some path) (Some bits) =
    if is_path path && is_mask bits then Some (File (record { path = path; mask = record { 0 = bits }; owned = owned })) else None

-- to use a file: letters, and a path
abbrev pub file_in : Bool → List ℕ → List ℕ → Option Request
file_in owned letters text = file_by owned (path_in text) (letters_in 0 letters)

-- the text of a request for a file
unfoldable pub file_text : RequestedFile → List ℕ
file_text f = codes "{" ++ member (codes "file") f.path ++ mask_member f.mask.0 ++ owned_end f.owned

-- the word of a request to execute
abbrev pub exec_word : RequestedExec → List ℕ
exec_word r = owned_text r.owned ++ codes "x:" ++ path_text false r.path

-- the request to execute, of a path that can be asked for
abbrev pub exec_by : Bool → Option (List ℕ) → Option Request
exec_by owned None = None
exec_by owned (Some path) = if is_path path then Some (Exec (record { path = path; owned = owned })) else None

-- the request to execute that a word is
abbrev pub exec_in : Bool → List ℕ → Option Request
exec_in owned text = exec_by owned (path_in text)

-- the text of a request to execute
unfoldable pub exec_text : RequestedExec → List ℕ
exec_text e = codes "{" ++ member (codes "exec") e.path ++ owned_end e.owned

-- the word of a request for a link
abbrev pub link_word : RequestedLink → List ℕ
link_word r = owned_text r.owned ++ codes "l:" ++ path_text true r.link ++ codes "->" ++ path_text false r.target

-- the request for a link, of two paths that can be asked for
abbrev pub link_by : Bool → Option (List ℕ) → Option (List ℕ) → Option Request
link_by owned None target = None
link_by owned (Some link) None = None
link_by owned (Some link) (Some target) = if is_path link && is_path target then Some (Link (record { link = link; target = target; owned = owned })) else None

-- to link: two paths with the first arrow between them
abbrev pub link_in : Bool → List ℕ → Option Request
link_in owned text = option_and_then (λ s. link_by owned (path_in s.0) (path_in s.1)) (split_in (codes "->") text)

-- the text of a request for a link
unfoldable pub link_text : RequestedLink → List ℕ
link_text l = codes "{" ++ member (codes "link") l.link ++ codes "," ++ member (codes "to") l.target ++ owned_end l.owned

-- the word of a request for a capability
abbrev pub cap_word : ℕ → List ℕ
cap_word n = codes "cap:" ++ entry capability_names n

-- the request for a capability, by its name
abbrev pub cap_in : List ℕ → Option Request
cap_in name = option_map Cap (number_in capability_names name)

-- the word of a request for a socket
abbrev pub net_word : ℕ → ℕ → List ℕ
net_word family kind = codes "net:" ++ entry family_names family ++ codes "/" ++ entry sock_type_names kind

-- the request for a socket, of a family and a type
abbrev pub net_by : Option ℕ → Option ℕ → Option Request
net_by None kind = None
net_by (Some family) None = None
net_by (Some family) (Some kind) = Some (Net family kind)

-- a socket: a family and a type with the first / between them
abbrev pub net_in : List ℕ → Option Request
net_in text = option_and_then (λ s. net_by (number_in family_names s.0) (number_in sock_type_names s.1)) (split_in (codes "/") text)

-- the text of a request for a socket
unfoldable pub net_text : ℕ → ℕ → List ℕ
net_text family kind =
    codes "{" ++ member (codes "net") (entry family_names family) ++ codes "," ++ member (codes "type") (entry sock_type_names kind) ++ codes "}"

-- a name as it is where all its bytes are seen, else in hexadecimal digits
abbrev pub change_word : List ℕ → List ℕ
change_word name = if list_all is_visible name then codes "change:" ++ name else codes "change=" ++ flat_map hex_pair name

-- the request to change the profile, of a name that can be asked for
abbrev pub change_in : List ℕ → Option Request
change_in name = if is_wanted_name name then Some (Change name) else None

-- the text of a request to be decided by another policy
unfoldable pub reload_text : ℕ → List ℕ
reload_text policy = codes "{" ++ key_text (codes "reload") ++ decimal policy ++ codes "}"

-- the word of a request
abbrev pub word_text : Request → List ℕ
word_text (File r) = file_word r
word_text (Link r) = link_word r
word_text (Exec r) = exec_word r
word_text (Cap n) = cap_word n
word_text (Net family kind) = net_word family kind
word_text (Change name) = change_word name
word_text (Reload k) = codes "reload"

-- the request for an object, by its letters
abbrev pub object_by : Bool → List ℕ → List ℕ → Option Request
object_by owned letters text =
    if bytes_eq letters (codes "x") then exec_in owned text
    else (if bytes_eq letters (codes "l") then link_in owned text
    else file_in owned letters text)

-- what is asked of an object: letters, a colon, and what the letters take
abbrev pub object_in : Bool → List ℕ → Option Request
object_in owned word = option_and_then (λ s. object_by owned s.0 s.1) (split_in (codes ":") word)

-- the request of a word; an object is the task's user's where the word says so, or where all are whose word says nothing
unfoldable pub request_in : Bool → List ℕ → Option Request
request_in owned word =
    or_else (behind (codes "owned:") word) (object_in true)
    (or_else (behind (codes "other:") word) (object_in false)
    (or_else (behind (codes "cap:") word) cap_in
    (or_else (behind (codes "net:") word) net_in
    (or_else (behind (codes "change:") word) change_in
    (or_else (behind (codes "change=") word) (λ text. option_and_then change_in (hex_in text))
    (object_in owned word))))))

-- a request as a JSON object: what is asked by its key
abbrev pub request_text : Request → List ℕ
request_text (File f) = file_text f
request_text (Link l) = link_text l
request_text (Exec e) = exec_text e
request_text (Cap c) = single (codes "cap") (entry capability_names c)
request_text (Net family kind) = net_text family kind
request_text (Change name) = single (codes "change") name
request_text (Reload policy) = reload_text policy

-- all its names are UTF-8, as a job's texts are
abbrev pub has_text : Request → Bool
has_text (File f) = is_utf8 f.path
has_text (Link l) = is_utf8 l.link && is_utf8 l.target
has_text (Exec e) = is_utf8 e.path
has_text (Cap c) = true
has_text (Net family kind) = true
has_text (Change name) = is_utf8 name
has_text (Reload policy) = true

-- a request that can be made, and that isn't a reload, which no word asks for
abbrev pub is_askable : Request → Bool
is_askable (File r) = is_path_of_bytes r.path && is_mask r.mask.0
is_askable (Link r) = is_path_of_bytes r.link && is_path_of_bytes r.target
is_askable (Exec r) = is_path_of_bytes r.path
is_askable (Cap n) = nat_lt n (length capability_names)
is_askable (Net family kind) = nat_lt family (length family_names) && nat_lt kind (length sock_type_names)
is_askable (Change name) = are_bytes name && is_wanted_name name
is_askable (Reload k) = false
