-- What the JSON of a report says.
-- Source: own.
use Rattle.std.specs.Prelude.{ℕ, List, [], ◌∷◌, codes, false, if◌then◌else◌, Option, Some, None, option_map, option_and_then, is_some, Result, Ok}
use Rattle.std.specs.Prelude.{Err}
use Rattle.std.specs.Option.{option_or}
use Rattle.std.specs.Str.{bytes_eq, is_utf8}
use Rattle.json.specs.Json.{Json, Items, no_items, item, document}
use Rattle.json.specs.Find.{get, as_str, as_number, as_array}
use Rattle.serde_json.specs.Read.{number_of}
use Rattle.serde_json.specs.Find.{as_u64}
use Rattle.aa_logs.specs.declared.line.Then.{Then}
use Rattle.aa_logs.specs.declared.line.Then.TheVariants.{Denied, Allowed, Granted}
use Rattle.aa_base.specs.Hex.{digits_in}
use Rattle.aa_model.specs.declared.request.Request.{Request}
use Rattle.aa_notation.specs.Kinds.{request_in}
use Rattle.aa_log.specs.Counted.{Counted}
use Rattle.aa_merge.specs.declared.fault.Member.{Member}
use Rattle.aa_merge.specs.declared.fault.Member.TheVariants as of
use Rattle.aa_merge.specs.declared.fault.PartFault.{PartFault}
use Rattle.aa_merge.specs.declared.fault.PartFault.TheVariants.{NotJson, NotAReport, Answered}
use Rattle.aa_merge.specs.Parts.{Asking, Passed, Unclear, Report}
use Rattle.aa_merge.specs.Reasons.{reason_named}
use Rattle.aa_merge.specs.Steps.{◌>>=◌, needed, each}

-- the values of a list
abbrev pub json_list : Items → List Json
json_list no_items = []
json_list (item j js) = j ∷ json_list js

-- bytes as a text, or as an object with their hexadecimal digits
abbrev pub bytes_in : Json → Option (List ℕ)
bytes_in j = option_or (as_str j) (option_and_then digits_in (option_and_then as_str (get (codes "hex") j)))

-- a number of 64 bits without a sign
abbrev pub number_in : Json → Option ℕ
number_in j = option_and_then as_u64 (option_and_then number_of (as_number j))

-- what became of a request, by its word
abbrev pub then_named : List ℕ → Option Then
then_named word =
    if bytes_eq word (codes "DENIED") then Some Denied
    else (if bytes_eq word (codes "ALLOWED") then Some Allowed
    else (if bytes_eq word (codes "GRANTED") then Some Granted else None))

-- a member of an object, as it is wanted there
abbrev pub member_in : {A : Type 0} → Member → List ℕ → (Json → Option A) → Json → Result A PartFault
member_in m key f j = needed (NotAReport m) (option_and_then f (get key j))

-- the same of one that need not be there
abbrev pub known_from : {A : Type 0} → (Json → Result A PartFault) → Option Json → Result (Option A) PartFault
known_from f None = Ok None
known_from f (Some j) = f j >>= λ a. Ok (Some a)

-- a text that is a request
abbrev pub request_of : Json → Option Request
request_of j = option_and_then (request_in false) (bytes_in j)

-- a row of requests
unfoldable pub row_in : Json → Result (Counted Asking) PartFault
row_in j = do
  became ← member_in of.Then (codes "then") (λ v. option_and_then then_named (as_str v)) j
  profile ← member_in of.Profile (codes "profile") bytes_in j
  request ← member_in of.Request (codes "request") request_of j
  count ← member_in of.Count (codes "count") number_in j
  path ← member_in of.Path (codes "path") bytes_in j
  line ← member_in of.Line (codes "line") number_in j
  Ok (record { item = record { became = became; profile = profile; request = request; path = path; line = line }; count = count })

-- lines that ask nothing
unfoldable pub passed_in : Json → Result (Counted Passed) PartFault
passed_in j = do
  reason ← member_in of.Reason (codes "reason") (λ v. option_and_then reason_named (as_str v)) j
  count ← member_in of.Count (codes "count") number_in j
  path ← member_in of.Path (codes "path") bytes_in j
  line ← member_in of.Line (codes "line") number_in j
  Ok (record { item = record { order = reason.0; name = reason.1; path = path; line = line }; count = count })

-- lines that aren't understood
unfoldable pub unclear_in : Json → Result Unclear PartFault
unclear_in j = do
  count ← member_in of.Count (codes "count") number_in j
  path ← member_in of.Path (codes "path") bytes_in j
  line ← member_in of.Line (codes "line") number_in j
  Ok (record { count = count; path = path; line = line })

-- the items of a list
abbrev pub list_in : Json → Option (List Json)
list_in j = option_map json_list (as_array j)

-- each line that asks nothing
abbrev pub each_in : Json → Result (List (Counted Passed)) PartFault
each_in j = needed (NotAReport of.SkippedLines) (list_in j) >>= each passed_in

-- a count of lines
abbrev pub left_out_in : Json → Result ℕ PartFault
left_out_in j = needed (NotAReport of.LeftOut) (number_in j)

-- an object that isn't answered by a policy
abbrev pub unanswered : Json → Result (Unit {0}) PartFault
unanswered j = if is_some (get (codes "counts") j) then Err Answered else Ok tt

-- a report, by its value
unfoldable pub report_in : Json → Result Report PartFault
report_in j = do
  _ ← unanswered j
  rows ← member_in of.Requests (codes "requests") list_in j
  requests ← each row_in rows
  reasons ← member_in of.Skipped (codes "skipped") list_in j
  skipped ← each passed_in reasons
  listed ← known_from each_in (get (codes "skipped_lines") j)
  lines ← member_in of.Lines (codes "lines") number_in j
  asking ← member_in of.Asking (codes "asking") number_in j
  other ← member_in of.Other (codes "other") number_in j
  left_out ← known_from left_out_in (get (codes "left_out") j)
  unclear ← known_from unclear_in (get (codes "unclear") j)
  Ok (record { requests = requests; skipped = skipped; each = listed; lines = lines; asking = asking; other = other; left_out = left_out; unclear = unclear })

-- a report, by its bytes
unfoldable pub report_of : List ℕ → Result Report PartFault
report_of bytes = needed NotJson (if is_utf8 bytes then document bytes else None) >>= report_in
