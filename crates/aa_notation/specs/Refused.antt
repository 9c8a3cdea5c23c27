-- Why a word is no request, and which words may have been meant.
-- Source: own.
use Rattle.std.specs.Prelude.{ℕ, ◌+◌, ◌==◌, ◌&&◌, nat_le, nat_lt, List, [], ◌++◌, length, map, filter, codes, Bool, false, not, Option, Some, None, is_some, unwrap_or, if◌then◌else◌}
use Rattle.std.specs.List.{list_any}
use Rattle.std.specs.Str.{bytes_eq}
use Rattle.aa_base.specs.Tables.{number_in, capability_names, family_names, sock_type_names}
use Rattle.aa_notation.specs.Parts.{split_in, behind}
use Rattle.aa_notation.specs.Read.{letters_in}
use Rattle.aa_notation.specs.Kinds.{request_in}
use Rattle.aa_notation.specs.Named.{named}

-- what a path has to be
unfoldable pub about_path : List ℕ
about_path = codes "a path begins with / and has at most 4,095 bytes, or stands in upper-case hexadecimal digits"

-- what stands before the colon
unfoldable pub about_letters : List ℕ
about_letters = codes "letters of rwakm stand before the colon, or x or l alone"

-- what a link has to be
unfoldable pub about_links : List ℕ
about_links = codes "behind l: stand two paths, as /a->/b"

-- what each word has to be
unfoldable pub about_words : List ℕ
about_words = codes "a word is letters, a colon and a path, or begins with cap:, net: or change:"

-- why letters and what stands behind their colon are no request
abbrev pub why_letters : List ℕ → List ℕ → List ℕ
why_letters letters text =
    if bytes_eq letters (codes "x") then about_path
    else (if bytes_eq letters (codes "l") then (if is_some (split_in (codes "->") text) then about_path else about_links)
    else (if is_some (letters_in 0 letters) && nat_lt 0 (length letters) then about_path else about_letters))

-- why a word is no request for an object
abbrev pub why_parts : Option (List ℕ × List ℕ) → List ℕ
why_parts None = about_words
why_parts (Some s) = why_letters s.0 s.1

-- why a family and a type are no socket
abbrev pub why_socket : Option (List ℕ × List ℕ) → List ℕ
why_socket None = codes "behind net: stand a family and a type, as inet/stream"
why_socket (Some s) =
    if is_some (number_in family_names s.0) then codes "no type of sockets has this name" else codes "no family of sockets has this name"

-- a word behind owned: or other: is one for an object, as without it
abbrev pub object_of : List ℕ → List ℕ
object_of word = unwrap_or (behind (codes "owned:") word) (unwrap_or (behind (codes "other:") word) word)

-- what is said of a word that is no request
abbrev pub why : List ℕ → List ℕ
why word =
    if is_some (behind (codes "cap:") word) then codes "no capability has this name"
    else (if is_some (behind (codes "net:") word) then why_socket (split_in (codes "/") (unwrap_or (behind (codes "net:") word) []))
    else (if is_some (behind (codes "change") word) then codes "behind change: stands a name of 1 to 1,024 bytes, behind change= its digits"
    else why_parts (split_in (codes ":") (object_of word))))

-- the small letter of a capital one
abbrev pub small : ℕ → ℕ
small b = if nat_le 65 b && nat_le b 90 then b + 32 else b

-- a text in small letters
abbrev pub lowered : List ℕ → List ℕ
lowered text = map small text

-- the word is a request
abbrev pub is_request : List ℕ → Bool
is_request word = is_some (request_in false word)

-- what is said of a word that may have been meant: it is shown where it is a request
abbrev pub meant_one : List ℕ → List ℕ
meant_one word = if is_request word then codes "; write " ++ word else []

-- the same of two
abbrev pub meant_two : List ℕ → List ℕ → List ℕ
meant_two first second =
    if is_request first && is_request second then codes "; write " ++ (first ++ (codes " and " ++ second)) else []

-- a capability's name is one of small letters, without cap_
abbrev pub meant_cap : List ℕ → List ℕ
meant_cap name = codes "cap:" ++ named capability_names (unwrap_or (behind (codes "cap_") (lowered name)) (lowered name))

-- the type of sockets by which a protocol is spoken, or else the name itself
abbrev pub type_of : List ℕ → List ℕ
type_of name =
    if bytes_eq name (codes "tcp") then codes "stream"
    else (if bytes_eq name (codes "udp") then codes "dgram"
    else (if bytes_eq name (codes "icmp") then codes "raw"
    else name))

-- a family and the type by which a protocol is spoken; a family alone is of streams
abbrev pub meant_parts : List ℕ → Option (List ℕ × List ℕ) → List ℕ
meant_parts text None = named family_names text ++ codes "/stream"
meant_parts text (Some s) = named family_names s.0 ++ (codes "/" ++ named sock_type_names (type_of s.1))

-- the socket that may have been meant
abbrev pub meant_net : List ℕ → List ℕ
meant_net text = codes "net:" ++ meant_parts (lowered text) (split_in (codes "/") (lowered text))

-- letters, a colon and what stands behind it
abbrev pub word_of : List ℕ → List ℕ → List ℕ → List ℕ
word_of front letters text = front ++ (letters ++ (codes ":" ++ text))

-- an x among other letters
abbrev pub has_x : List ℕ → Bool
has_x letters = nat_lt 1 (length letters) && list_any (λ b. b == 120) letters

-- the letters but for x
abbrev pub without_x : List ℕ → List ℕ
without_x letters = filter (λ b. not (b == 120)) letters

-- an execution is asked by a word of its own, beside one for the other letters, if they ask for something
abbrev pub meant_exec : List ℕ → List ℕ → List ℕ → List ℕ
meant_exec front letters text =
    if is_request (word_of front (without_x letters) text) then meant_two (word_of front (without_x letters) text) (word_of front (codes "x") text)
    else meant_one (word_of front (codes "x") text)

-- the letters of a permission's name, or else small ones
abbrev pub letters_meant : List ℕ → List ℕ
letters_meant letters =
    if bytes_eq letters (codes "read") then codes "r"
    else (if bytes_eq letters (codes "write") then codes "w"
    else (if bytes_eq letters (codes "file") then codes "rw"
    else lowered letters))

-- an execution is asked by a word of its own, and letters are small ones
abbrev pub meant_letters : List ℕ → List ℕ → List ℕ → List ℕ
meant_letters front letters text =
    if has_x letters then meant_exec front letters text
    else meant_one (word_of front (letters_meant letters) text)

-- letters stand before a space, or a path alone is read
abbrev pub meant_path : List ℕ → List ℕ → Option (List ℕ × List ℕ) → List ℕ
meant_path front object None = meant_one (front ++ (codes "r:" ++ object))
meant_path front object (Some s) = meant_letters front s.0 s.1

-- letters stand before a colon
abbrev pub meant_object : List ℕ → List ℕ → Option (List ℕ × List ℕ) → List ℕ
meant_object front object None = meant_path front object (split_in (codes " ") object)
meant_object front object (Some s) = meant_letters front s.0 s.1

-- the front of a word that says whose the object is
abbrev pub owner_front : List ℕ → List ℕ
owner_front word =
    if is_some (behind (codes "owned:") word) then codes "owned:"
    else (if is_some (behind (codes "other:") word) then codes "other:" else [])

-- what is said of the words that may have been meant by one that is no request
abbrev pub meant : List ℕ → List ℕ
meant word =
    if is_some (behind (codes "cap:") word) then meant_one (meant_cap (unwrap_or (behind (codes "cap:") word) []))
    else (if is_some (behind (codes "net:") word) then meant_one (meant_net (unwrap_or (behind (codes "net:") word) []))
    else meant_object (owner_front word) (object_of word) (split_in (codes ":") (object_of word)))

-- why a word is no request, and the request that may have been meant
abbrev pub refusal : List ℕ → List ℕ
refusal word = why word ++ meant word
