-- What a line of a log is: another's, one that asks nothing, or a record of what was asked and what became of it.
-- Source: as the kernel and the audit daemon write; as the kernel numbers records; as the audit daemon writes; own.
use Rattle.std.specs.Prelude.{ℕ, ◌-◌, ◌==◌, ◌||◌, ◌&&◌, not, nat_le, nat_lt, nat_eq, List, [], ◌∷◌, length, take}
use Rattle.std.specs.Prelude.{drop, codes, count_by, Bool, true, false, if◌then◌else◌, Option, Some, None, is_some, slice_get, Result, Ok, Err}
use Rattle.std.specs.List.{starts_with, list_any, prefix_len}
use Rattle.std.specs.Option.{option_and_then, option_or}
use Rattle.std.specs.Str.{bytes_eq}
use Rattle.aa_model.specs.declared.request.Request.{Request}
use Rattle.aa_logs.specs.declared.word.Form.{Form}
use Rattle.aa_logs.specs.declared.word.Form.TheVariants.{Quoted, Open, Plain, Run}
use Rattle.aa_logs.specs.declared.line.Then.{Then}
use Rattle.aa_logs.specs.declared.line.Then.TheVariants.{Denied, Allowed, Granted}
use Rattle.aa_logs.specs.declared.line.Told.{Told}
use Rattle.aa_logs.specs.declared.line.Told.TheVariants as told
use Rattle.aa_logs.specs.declared.line.Reason.TheVariants.{NoProfile, Namespace, Stacked, Status, OldForm, Broken}
use Rattle.aa_logs.specs.Words.{WordData, words_of}
use Rattle.aa_logs.specs.Fields.{raw_in, text_in, place_of, is_digit, number_in}
use Rattle.aa_logs.specs.Asked.{Cause, Because, asked_in}
use Rattle.aa_logs.specs.Outcomes.{RecordData, Outcome, Another, AsksNothing, AsksFor}

-- the part stands somewhere in the text
abbrev pub holds_part : List ℕ → List ℕ → Bool
holds_part part text = is_some (place_of part text)

-- a line is the access control's where it has one of these in it
abbrev pub is_record : List ℕ → Bool
is_record line = holds_part (codes "apparmor=\"") line || holds_part (codes "type=15") line || holds_part (codes "type=APPARMOR") line || holds_part (codes "type=UNKNOWN[15") line

-- a mark stands in a line with its sign, which is its byte of that number, at a place
abbrev pub is_mark_at : List ℕ → ℕ → List ℕ → ℕ → Bool
is_mark_at mark sign line at = nat_le sign at && starts_with nat_eq (drop (at - sign) line) mark

-- one of the access control's marks does, whose sign is `=`
abbrev pub has_mark_at : List ℕ → ℕ → Bool
has_mark_at line at = is_mark_at (codes "apparmor=\"") 8 line at || is_mark_at (codes "type=15") 4 line at || is_mark_at (codes "type=APPARMOR") 4 line at || is_mark_at (codes "type=UNKNOWN[15") 4 line at

-- what a record's word tells
unfoldable pub told_by_word : List ℕ → Option Told
told_by_word word =
    if bytes_eq word (codes "DENIED") || bytes_eq word (codes "KILLED") then Some (told.Then Denied)
    else (if bytes_eq word (codes "ALLOWED") then Some (told.Then Allowed)
    else (if bytes_eq word (codes "AUDIT") then Some (told.Then Granted)
    else (if bytes_eq word (codes "HINT") || bytes_eq word (codes "STATUS") || bytes_eq word (codes "ERROR") then Some told.Status
    else None)))

-- the word is one of three
abbrev pub is_one_of : List ℕ → List ℕ → List ℕ → List ℕ → Bool
is_one_of a b c word = bytes_eq word a || bytes_eq word b || bytes_eq word c

-- what the type of a record without a word tells
unfoldable pub told_by_type : List ℕ → Option Told
told_by_type kind =
    if is_one_of (codes "1501") (codes "UNKNOWN[1501]") (codes "APPARMOR_AUDIT") kind then Some (told.Then Granted)
    else (if is_one_of (codes "1502") (codes "UNKNOWN[1502]") (codes "APPARMOR_ALLOWED") kind then Some (told.Then Allowed)
    else (if is_one_of (codes "1503") (codes "UNKNOWN[1503]") (codes "APPARMOR_DENIED") kind then Some (told.Then Denied)
    else (if is_one_of (codes "1504") (codes "UNKNOWN[1504]") (codes "APPARMOR_HINT") kind || is_one_of (codes "1505") (codes "UNKNOWN[1505]")
    (codes "APPARMOR_STATUS") kind || is_one_of (codes "1506") (codes "UNKNOWN[1506]") (codes "APPARMOR_ERROR") kind then Some told.Status
    else None)))

-- a record of before 2007
abbrev pub is_old_type : List ℕ → Bool
is_old_type kind = is_one_of (codes "APPARMOR") (codes "1500") (codes "UNKNOWN[1500]") kind

-- what a record's type tells
abbrev pub type_tells : List ℕ → Result (Option Told) Cause
type_tells kind = if is_old_type kind then Err (Because OldForm) else Ok (told_by_type kind)

-- what a record's word tells
abbrev pub word_tells : Option Told → Result (Option Told) Cause
word_tells None = Err (Because Broken)
word_tells (Some t) = Ok (Some t)

-- what a record tells, by its word, else by its type
abbrev pub tells : Option (List ℕ) → Option (List ℕ) → Result (Option Told) Cause
tells (Some word) kind = word_tells (told_by_word word)
tells None (Some kind) = type_tells kind
tells None None = Ok None

-- what the words of a record tell: by its word, or else by its type
unfoldable pub told_in : List WordData → Result (Option Told) Cause
told_in ws = tells (raw_in (codes "apparmor") ws) (raw_in (codes "type") ws)

-- what stands behind a byte that ends digits
abbrev pub behind_end : Bool → ℕ → List ℕ → Option (List ℕ)
behind_end good end [] = None
behind_end good end (b ∷ rest) = if good && b == end then Some rest else None

-- what stands behind digits, so many at the most, and the byte that ends them
unfoldable pub behind_digits : ℕ → ℕ → List ℕ → Option (List ℕ)
behind_digits most end text = behind_end (nat_lt 0 (prefix_len is_digit text) && nat_le (prefix_len is_digit text) most) end (drop (prefix_len is_digit text) text)

-- nothing, or a colon
abbrev pub ends_stamp : Option (List ℕ) → Bool
ends_stamp None = false
ends_stamp (Some rest) = bytes_eq rest [] || bytes_eq rest (codes ":")

-- SECONDS.PART:NUMBER), a colon behind it or not
unfoldable pub is_time : List ℕ → Bool
is_time text = ends_stamp (option_and_then (behind_digits 19 41) (option_and_then (behind_digits 9 58) (behind_digits 19 46 text)))

-- a word that begins as a stamp does: a run, or the run that is the value of msg
abbrev pub may_be_stamp : Form → List ℕ → Bool
may_be_stamp Run key = true
may_be_stamp Plain key = bytes_eq key (codes "msg")
may_be_stamp Quoted key = false
may_be_stamp Open key = false

-- the word begins as a stamp does
abbrev pub begins_stamp : WordData → Bool
begins_stamp w = may_be_stamp w.form w.key && starts_with nat_eq w.text (codes "audit(")

-- it begins so, and is none
abbrev pub is_false_stamp : WordData → Bool
is_false_stamp w = begins_stamp w && not (is_time (drop 6 w.text))

-- its value begins with a quote that isn't closed
abbrev pub is_form_open : Form → Bool
is_form_open Open = true
is_form_open Quoted = false
is_form_open Plain = false
is_form_open Run = false

-- the word's value begins with a quote that isn't closed
abbrev pub is_open : WordData → Bool
is_open w = is_form_open w.form

-- a quote that isn't closed, a stamp that is none, two stamps
unfoldable pub is_broken : List WordData → Bool
is_broken ws = list_any is_open ws || list_any is_false_stamp ws || nat_lt 1 (count_by begins_stamp ws)

-- whether a stamp has come, with one word more; none where no line has such words
abbrev pub stamped_by : Bool → WordData → Option Bool
stamped_by stamped w =
    if is_open w then None
    else (if not (begins_stamp w) then Some stamped
    else (if stamped || is_false_stamp w then None
    else Some true))

-- a namespace is named that isn't the first one
abbrev pub is_other_space : Option (List ℕ) → Bool
is_other_space None = false
is_other_space (Some space) = not (bytes_eq space (codes "root")) && not (bytes_eq space (codes "default"))

-- the profile that asked, by its name and namespace
abbrev pub named_profile : Option (List ℕ) → Option (List ℕ) → Result (List ℕ) Cause
named_profile None space = Err (Because NoProfile)
named_profile (Some name) space =
    if starts_with nat_eq name (codes ":") || is_other_space space then Err (Because Namespace)
    else (if holds_part (codes "//&") name then Err (Because Stacked) else Ok name)

-- the profile that asked, by its full name
unfoldable pub profile_in : List WordData → Result (List ℕ) Cause
profile_in ws = named_profile (option_or (text_in (codes "profile") ws) (text_in (codes "label") ws)) (text_in (codes "namespace") ws)

-- the record of this request, or why there is none
abbrev pub with_request : List WordData → Then → List ℕ → Result Request Cause → Result (Option RecordData) Cause
with_request ws became profile (Err why) = Err why
with_request ws became profile (Ok request) = Ok (Some (record { became = became; profile = profile; request = request; pid = option_and_then number_in (raw_in (codes "pid") ws) }))

-- the record of this profile, or why there is none
abbrev pub with_profile : List WordData → Then → Result (List ℕ) Cause → Result (Option RecordData) Cause
with_profile ws became (Err why) = Err why
with_profile ws became (Ok profile) = with_request ws became profile (asked_in ws)

-- the record of these words, by what its word or type tells
abbrev pub by_told : List WordData → Result (Option Told) Cause → Result (Option RecordData) Cause
by_told ws (Err why) = Err why
by_told ws (Ok None) = Ok None
by_told ws (Ok (Some told.Status)) = Err (Because Status)
by_told ws (Ok (Some (told.Then became))) = with_profile ws became (profile_in ws)

-- what a record's words say
unfoldable pub record_by : List WordData → Result (Option RecordData) Cause
record_by ws = if is_broken ws then Err (Because Broken) else by_told ws (told_in ws)

-- a line has at most 65,536 bytes
unfoldable pub record_in : List ℕ → Result (Option RecordData) Cause
record_in line = if nat_lt 65536 (length line) then Err (Because Broken) else record_by (words_of line)

-- what a line is, by its record
abbrev pub outcome_by : Result (Option RecordData) Cause → Outcome
outcome_by (Err why) = AsksNothing why
outcome_by (Ok None) = Another
outcome_by (Ok (Some r)) = AsksFor r

-- the byte is CR
abbrev pub is_return : Option ℕ → Bool
is_return None = false
is_return (Some b) = b == 13

-- a line without the CR that it may end in
abbrev pub without_return : List ℕ → List ℕ
without_return line = if is_return (slice_get line (length line - 1)) then take (length line - 1) line else line

-- what a line without its end is
abbrev pub outcome_of : List ℕ → Outcome
outcome_of line = if is_record line then outcome_by (record_in line) else Another

-- what a line of a log says
unfoldable pub line_in : List ℕ → Outcome
line_in line = outcome_of (without_return line)
