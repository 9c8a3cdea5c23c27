-- What `check` finds, as a SARIF log.
-- Source: SARIF 2.1.0, sections 3.4, 3.13, 3.14, 3.20, 3.27, 3.29, 3.30; RFC 3986, section 2; RFC 8089, section 2; own.
use Rattle.std.specs.Prelude.{ℕ, ◌==◌, ◌&&◌, ◌||◌, nat_lt, nat_le, not, List, [], ◌∷◌, ◌++◌, length, map, flat_map, codes, decimal, Bool}
use Rattle.std.specs.Prelude.{if◌then◌else◌, Option, Some, None, option_to_list, Vec}
use Rattle.std.specs.Str.{is_utf8}
use Rattle.std.specs.declared.alloc.Global.{Global}
use Rattle.aa_base.specs.Hex.{hex_pair}
use Rattle.aa_text.specs.Jsons.{json_text, json_bytes, key_text, bool_text, member_text, list_text}
use Rattle.aa_text.specs.declared.position.PlaceAt.{PlaceAt}
use Rattle.aa_text.specs.declared.fault.Link.{Link}
use Rattle.aa_text.specs.declared.fault.FaultReport.{FaultReport}
use Rattle.aa_command.specs.Untold.{Untelling}
use Rattle.aa_check.specs.declared.sarif.Level.{Level}
use Rattle.aa_check.specs.declared.sarif.Level.TheVariants.{Error, Warning}
use Rattle.aa_check.specs.declared.report.FileReport.{FileReport}
use Rattle.aa_check.specs.declared.report.CheckReport.{CheckReport}

-- a letter or a digit
abbrev pub is_alphanumeric : ℕ → Bool
is_alphanumeric b = (nat_le 48 b && nat_le b 57) || (nat_le 65 b && nat_le b 90) || (nat_le 97 b && nat_le b 122)

-- a byte that stands for itself in the path of a URI: letters, digits, `-`, `.`, `_`, `~` and `/`
abbrev pub is_plain : ℕ → Bool
is_plain b = is_alphanumeric b || b == 45 || b == 46 || b == 95 || b == 126 || b == 47

-- a byte in the path of a URI: itself, or two digits behind a percent sign
abbrev pub uri_byte : ℕ → List ℕ
uri_byte b = if is_plain b then b ∷ [] else 37 ∷ hex_pair b

-- what stands before an absolute path
abbrev pub scheme_of : List ℕ → List ℕ
scheme_of [] = []
scheme_of (b ∷ bs) = if b == 47 then codes "file://" else []

-- a path as a URI: an absolute path as that of a file, another one relative
unfoldable pub uri_text : List ℕ → List ℕ
uri_text path = codes "\"" ++ scheme_of path ++ flat_map uri_byte path ++ codes "\""

-- a byte of a text that is no UTF-8: ASCII, or ? in place of it
abbrev pub ascii_of : ℕ → ℕ
ascii_of b = if nat_lt b 128 then b else 63

-- bytes as a text, which SARIF wants everywhere
abbrev pub as_text : List ℕ → List ℕ
as_text bytes = if is_utf8 bytes then bytes else map ascii_of bytes

-- a message
unfoldable pub message_text : List ℕ → List ℕ
message_text bytes = codes "{" ++ key_text (codes "text") ++ json_bytes (as_text bytes) ++ codes "}"

-- the line, from 1
unfoldable pub start_line : ℕ → List ℕ
start_line line = key_text (codes "startLine") ++ decimal line

-- line and column, both from 1
unfoldable pub region_text : ℕ → ℕ → List ℕ
region_text line column = codes "{" ++ start_line line ++ member_text (codes "startColumn") (decimal column) ++ codes "}"

-- the member of a place, if there is one
abbrev pub region_member : Option PlaceAt → List ℕ
region_member None = []
region_member (Some p) = member_text (codes "region") (region_text p.line p.column)

-- a file, and a place in it if there is one, as the first member of an object
unfoldable pub place_member : List ℕ → Option PlaceAt → List ℕ
place_member path place =
    key_text (codes "physicalLocation") ++ codes "{" ++ key_text (codes "artifactLocation") ++ codes "{" ++ key_text (codes "uri")
    ++ uri_text path ++ codes "}" ++ region_member place ++ codes "}"

-- where a result is
unfoldable pub location_text : List ℕ → Option PlaceAt → List ℕ
location_text path place = codes "[{" ++ place_member path place ++ codes "}]"

-- a place besides that of a result, and what it has to do with it
unfoldable pub related_text : List ℕ → Option PlaceAt → List ℕ → List ℕ
related_text path place bytes = codes "{" ++ place_member path place ++ member_text (codes "message") (message_text bytes) ++ codes "}"

-- an include on the way to a fault
unfoldable pub link_text : Link → List ℕ
link_text l = related_text l.path.items (Some l.place) (codes "included here")

-- the includes on the way to a fault
unfoldable pub links_member : List Link → List ℕ
links_member links = member_text (codes "relatedLocations") (list_text (map link_text links))

-- how grave a result or a notification is
abbrev pub level_text : Level → List ℕ
level_text Error = codes "\"error\""
level_text Warning = codes "\"warning\""

-- the kind of a result, and how grave it is
unfoldable pub rule_members : Level → List ℕ → List ℕ
rule_members level kind = codes "{" ++ key_text (codes "ruleId") ++ json_text kind ++ member_text (codes "level") (level_text level)

-- what a fault is and where
unfoldable pub fault_members : FaultReport → List ℕ
fault_members f = member_text (codes "message") (message_text f.message.items) ++ member_text (codes "locations") (location_text f.path.items f.place)

-- a fault, with the includes on the way to it
unfoldable pub result_text : FaultReport → List ℕ
result_text f = rule_members Error f.kind.now ++ fault_members f ++ links_member f.chain.items ++ codes "}"

-- the results of a file: its first fault, if it has one, and those behind it
abbrev pub results_of : FileReport → List (List ℕ)
results_of f = map result_text (option_to_list f.fault) ++ map result_text f.further.items

-- what is told of a run besides its results
unfoldable pub notification_text : Level → List ℕ → List ℕ
notification_text level bytes = codes "{" ++ key_text (codes "level") ++ level_text level ++ member_text (codes "message") (message_text bytes) ++ codes "}"

-- warnings
abbrev pub notifications : List (Vec ℕ Global) → List (List ℕ)
notifications warnings = map (λ (w : Vec ℕ Global). notification_text Warning w.items) warnings

-- all warnings: those of no file's own, and then each file's
abbrev pub all_notifications : CheckReport → List (List ℕ)
all_notifications r = notifications r.warnings.items ++ flat_map (λ (f : FileReport). notifications f.warnings.items) r.files.items

-- what is found
unfoldable pub results_member : List FileReport → List ℕ
results_member files = member_text (codes "results") (list_text (flat_map results_of files))

-- what is told besides, as the first member of an object
unfoldable pub notifications_member : List (List ℕ) → List ℕ
notifications_member warnings = key_text (codes "toolExecutionNotifications") ++ list_text warnings

-- how a run went: what is told besides, and whether all could be looked at
unfoldable pub invocations_text : Bool → List (List ℕ) → List ℕ
invocations_text is_successful warnings = codes "[{" ++ notifications_member warnings ++ member_text (codes "executionSuccessful") (bool_text is_successful) ++ codes "}]"

-- a profile of which nothing is told
abbrev pub note_text : Untelling → List ℕ
note_text u = notification_text Error u.text

-- how the run went: it didn't look at all where of a profile nothing is told
abbrev pub run_member : List Untelling → List ℕ
run_member untold = member_text (codes "invocations") (invocations_text (length untold == 0) (map note_text untold))

-- what stands before the results
unfoldable pub sarif_head : List ℕ
sarif_head =
    codes "{\"$schema\":\"https://json.schemastore.org/sarif-2.1.0.json\",\"version\":\"2.1.0\",\"runs\":[{\"tool\":{\"driver\":{\"name\":\"aapolicy\"}},\"columnKind\":\"unicodeCodePoints\""

-- the one object
abbrev pub sarif_report : CheckReport → List ℕ
sarif_report r = sarif_head ++ results_member r.files.items ++ member_text (codes "invocations") (invocations_text (not r.is_unread) (all_notifications r)) ++ codes "}]}\n"
