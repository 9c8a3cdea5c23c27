-- Which requests a word asks.
-- Source: apparmor.d(5), "Access Modes"; own.
use Rattle.std.specs.Prelude.{◌≡◌, ℕ, ◌+◌, ◌==◌, ◌&&◌, ◌||◌, not, List, [], ◌∷◌, ◌++◌, take, drop, position, Bool, true, false}
use Rattle.std.specs.Prelude.{codes, Option, Some, None, is_some, option_map, option_and_then, bit_and, bit_or, if◌then◌else◌, Ok}
use Rattle.std.specs.List.{list_all, list_any}
use Rattle.aa_pattern.specs.declared.pattern.Pattern.{Pattern}
use Rattle.aa_base.specs.declared.perms.Perms.{Perms}
use Rattle.aa_text.specs.Visible.{all_visible}
use Rattle.aa_glob.specs.Reading.{tokens, spelled}
use Rattle.aa_compile.specs.Said.{perms_of, minus}
use Rattle.aa_model.specs.Requests.{begins_with}
use Rattle.aa_model.specs.declared.request.Request.{Request}
use Rattle.aa_model.specs.declared.request.Request.TheVariants as asks
use Rattle.aa_notation.specs.Parts.{behind}
use Rattle.aa_notation.specs.Kinds.{request_in}
use Rattle.aa_notation.specs.Refused.{has_x, without_x, word_of, refusal}
use Rattle.aa_quantifiers.specs.declared.word.Whose.{Whose}
use Rattle.aa_quantifiers.specs.declared.word.Whose.TheVariants.{Both, Owner, Others}
use Rattle.aa_quantifiers.specs.declared.word.Word.{Word}
use Rattle.aa_quantifiers.specs.declared.word.Word.TheVariants.{Files, Execs, One}
use Rattle.aa_who.specs.declared.fault.Misread.{Misread}
use Rattle.aa_who.specs.declared.fault.Misread.TheVariants as misread
use Rattle.aa_who.specs.declared.fault.WhoFault.{WhoFault}
use Rattle.aa_who.specs.declared.fault.WhoFault.TheVariants.{NoMemory, Refused}

-- a sentence about a word as it is shown, in one line
abbrev pub said_of : List ℕ → List ℕ → List ℕ
said_of sentence word = sentence ++ all_visible word ++ codes "\n"

-- what is said of a word whose pattern matches no path that can be asked for
abbrev pub no_path : List ℕ → List ℕ
no_path word = said_of (codes "error: no path that can be asked for matches: ") word

-- a word of a capability, a socket or a change asks one request
abbrev pub is_alone : List ℕ → Bool
is_alone word =
    is_some (behind (codes "cap:") word) || (is_some (behind (codes "net:") word)
    || (is_some (behind (codes "change:") word) || is_some (behind (codes "change=") word)))

-- whose objects, and what is asked of them
abbrev pub whose_by : List ℕ → Option (List ℕ) → Option (List ℕ) → Whose × List ℕ
whose_by word (Some text) others = (Owner, text)
whose_by word None (Some text) = (Others, text)
whose_by word None None = (Both, word)

-- the same of a word; without a front it asks both
abbrev pub whose_in : List ℕ → Whose × List ℕ
whose_in word = whose_by word (behind (codes "owned:") word) (behind (codes "other:") word)

-- the masks of letters: to write is to write or to append, as in a rule
abbrev pub masks_of : Perms → List Perms
masks_of mask = if bit_and mask.0 2 == 0 then mask ∷ [] else mask ∷ perms_of (bit_or (minus mask.0 2) 4) ∷ []

-- what stands before the first colon, and what stands behind it
abbrev pub at_colon : List ℕ → Option (List ℕ × List ℕ)
at_colon text = option_map (λ n. (take n text, drop (n + 1) text)) (position (λ b. b == 58) text)

-- what a word of files has to be
unfoldable pub about_words : List ℕ
about_words = codes "a word is letters, a colon and a pattern, or begins with cap:, net: or change:"

-- what stands before the colon
unfoldable pub about_letters : List ℕ
about_letters = codes "letters of rwakm stand before the colon, or x alone"

-- letters that ask for a link
unfoldable pub about_links : List ℕ
about_links = codes "no links are asked for here"

-- what stands behind owned: and other:
unfoldable pub about_fronts : List ℕ
about_fronts = codes "owned: and other: stand before words of files alone"

-- a letter that stands in a word of ask
abbrev pub is_letter : ℕ → Bool
is_letter b = list_any (λ c. c == b) (codes "rwakmxl")

-- letters with that of links
abbrev pub ask_link : List ℕ → Bool
ask_link letters = list_any (λ b. b == 108) letters && list_all is_letter letters

-- the front of a word that says whose the files are
abbrev pub front_of : Whose → List ℕ
front_of Owner = codes "owned:"
front_of Others = codes "other:"
front_of Both = []

-- two words that may have been meant where an x stands among other letters: an execution is asked by a word of its own
abbrev pub meant : List ℕ → List ℕ → List ℕ → List ℕ
meant front letters path =
    if has_x letters && is_some (request_in false (without_x letters ++ codes ":/"))
    then codes "; write " ++ (word_of front (without_x letters) path ++ (codes " and " ++ word_of front (codes "x") path)) else []

-- why letters before a colon ask nothing
abbrev pub why_letters : List ℕ → List ℕ → List ℕ → List ℕ
why_letters front letters path = if ask_link letters then about_links else about_letters ++ meant front letters path

-- why a text is no word of files; a path alone may be one to read
abbrev pub why_parts : List ℕ → List ℕ → Option (List ℕ × List ℕ) → List ℕ
why_parts front text None = about_words ++ (if begins_with 47 text then codes "; write " ++ word_of front (codes "r") text else [])
why_parts front text (Some s) = why_letters front s.0 s.1

-- no word of files begins so
abbrev pub begins_otherwise : List ℕ → Bool
begins_otherwise text = is_alone text || (is_some (behind (codes "owned:") text) || is_some (behind (codes "other:") text))

-- why a text of these owners is no word of files
abbrev pub why_files : Whose → List ℕ → List ℕ
why_files whose text = if begins_otherwise text then about_fronts else why_parts (front_of whose) text (at_colon text)

-- why a word is no request, and the words that may have been meant
abbrev pub why_unread : List ℕ → List ℕ
why_unread word = if is_alone word then refusal word else why_files (whose_in word).0 (whose_in word).1

-- what letters ask of the folder /, and the text behind their colon
abbrev pub object_in : List ℕ → Option (Request × List ℕ)
object_in text = option_and_then (λ s. option_map (λ r. (r, s.1)) (request_in false (s.0 ++ codes ":/"))) (at_colon text)

-- files are asked for: to use them, or to execute them
abbrev pub is_of_files : Option (Request × List ℕ) → Bool
is_of_files (Some (asks.File f, text)) = true
is_of_files (Some (asks.Exec x, text)) = true
is_of_files _ = false

-- the text spells the pattern
abbrev pub IsPatternOf : List ℕ → Pattern → Type 0
IsPatternOf text p = tokens text ≡ Ok (spelled p.items.items)

-- the text spells that pattern, or none
abbrev pub IsPatternIf : List ℕ → Option Pattern → Type 0
IsPatternIf text (Some p) = IsPatternOf text p
IsPatternIf text None = (p : Pattern) → IsPatternOf text p → ⊥

-- to use files, of these owners, by a mask's masks, at the paths of the pattern
abbrev pub IsFilesOf : Whose → Perms → List ℕ → Word → Type 0
IsFilesOf whose mask text (Files w) = IsPatternOf text w.pattern × (w.masks ≡ masks_of mask) × (w.whose ≡ whose)
IsFilesOf whose mask text _ = ⊥

-- to execute files, of these owners, at the paths of the pattern
abbrev pub IsExecsOf : Whose → List ℕ → Word → Type 0
IsExecsOf whose text (Execs w) = IsPatternOf text w.pattern × (w.whose ≡ whose)
IsExecsOf whose text _ = ⊥

-- by what the letters ask
abbrev pub IsOfObject : Whose → Option (Request × List ℕ) → Word → Type 0
IsOfObject whose (Some (asks.File f, text)) w = IsFilesOf whose f.mask text w
IsOfObject whose (Some (asks.Exec x, text)) w = IsExecsOf whose text w
IsOfObject whose _ w = ⊥

-- one request
abbrev pub IsAlone : Option Request → Word → Type 0
IsAlone (Some r) (One q) = q ≡ r
IsAlone _ _ = ⊥

-- one request, or those of an object
abbrev pub IsReadBy : Bool → List ℕ → Word → Type 0
IsReadBy true text w = IsAlone (request_in false text) w
IsReadBy false text w = IsOfObject (whose_in text).0 (object_in (whose_in text).1) w

-- the requests that a word asks
abbrev pub IsRead : List ℕ → Word → Type 0
IsRead text w = IsReadBy (is_alone text) text w

-- so it is no request, and this is why
abbrev pub IsNoRequest : List ℕ → Misread → Type 0
IsNoRequest text (misread.NoRequest why) = why.items ≡ why_unread text
IsNoRequest text _ = ⊥

-- a refusal says why no requests are read of a word, unless memory ran out: where files are asked for, its path is no pattern; else it is
-- no request
abbrev pub SaysUnread : List ℕ → Bool → (Word → Type 0) → Misread → Type 0
SaysUnread text of_files Reads misread.NoMemory = Unit {0}
SaysUnread text of_files Reads (misread.NoRequest why) = ((w : Word) → Reads w → ⊥) × (of_files ≡ false) × (why.items ≡ why_unread text)
SaysUnread text of_files Reads misread.NoPattern = ((w : Word) → Reads w → ⊥) × (of_files ≡ true)

-- it says that a path is no pattern
abbrev pub SaysNoPattern : (Word → Type 0) → Misread → Type 0
SaysNoPattern Reads misread.NoMemory = Unit {0}
SaysNoPattern Reads (misread.NoRequest why) = ⊥
SaysNoPattern Reads misread.NoPattern = (w : Word) → Reads w → ⊥

-- so of what is asked of an object
abbrev pub SaysNoObject : List ℕ → Whose → Option (Request × List ℕ) → Misread → Type 0
SaysNoObject text whose o e = SaysUnread text (is_of_files o) (IsOfObject whose o) e

-- the word asks for files
abbrev pub asks_files : List ℕ → Bool
asks_files text = not (is_alone text) && is_of_files (object_in (whose_in text).1)

-- so of the requests that the word asks
abbrev pub SaysMisread : List ℕ → Misread → Type 0
SaysMisread text e = SaysUnread text (asks_files text) (IsRead text) e

-- the line is what is said of a word that is read as no requests
abbrev pub IsMisreadLine : List ℕ → Misread → List ℕ → Type 0
IsMisreadLine word misread.NoMemory line = ⊥
IsMisreadLine word (misread.NoRequest why) line = line ≡ codes "error: this is no request: " ++ all_visible word ++ codes ": " ++ all_visible why.items ++ codes "\n"
IsMisreadLine word misread.NoPattern line = line ≡ said_of (codes "error: the path is no pattern: ") word

-- the refusal says the line
abbrev pub IsSaid : List ℕ → WhoFault → Type 0
IsSaid line NoMemory = ⊥
IsSaid line (Refused text) = text.items ≡ line
