-- What logs hold, by their lines.
-- Source: own.
use Rattle.std.specs.Prelude.{ℕ, ◌≡◌, List, [], ◌∷◌, ◌&&◌, ◌==◌, ◌≤◌, length, map, flat_map, count_by, min, Bool, not, Option, Some, None, is_none, is_some, option_map, position, if◌then◌else◌}
use Rattle.std.specs.List.{filter}
use Rattle.std.specs.Option.{option_or}
use Rattle.std.specs.Str.{bytes_eq}
use Rattle.std.specs.HashMap.{HashMap, get_by}
use Rattle.std.specs.declared.vec.Vec.{Vec}
use Rattle.aa_log.specs.Limits.{most_requests}
use Rattle.aa_model.specs.declared.request.Request.{Request}
use Rattle.aa_notation.specs.Kinds.{word_text}
use Rattle.aa_logs.specs.declared.line.Then.{Then}
use Rattle.aa_logs.specs.declared.chosen.Choice.{Choice}
use Rattle.aa_logs.specs.Asked.{Cause, Keyword, Because}
use Rattle.aa_logs.specs.Outcomes.{Outcome, Another, AsksNothing, AsksFor, RecordData}
use Rattle.aa_logs.specs.Records.{line_in}
use Rattle.aa_logs.specs.Chosen.{is_chosen}
use Rattle.aa_logs.specs.Reasons.{rank, word_of}
use Rattle.aa_log.specs.declared.logging.LinePlace.{LinePlace}
use Rattle.aa_log.specs.declared.logging.Entry.{Entry}
use Rattle.aa_log.specs.declared.logging.SkippedLines.{SkippedLines}
use Rattle.aa_log.specs.declared.logging.LogReport.{LogReport}
use Rattle.aa_logs.specs.LogLines.{LogLine}
use Rattle.aa_messages.specs.Unclear.{is_another}
use Rattle.aa_base.specs.declared.unread.Unread.{Unread}
use Rattle.aa_base.specs.declared.unread.Unread.TheVariants.{NoMemory, TooLarge}
use Rattle.aa_log.specs.Counted.{greatest, Counted, counted, firsts}
use Rattle.aa_log.specs.Printed.{key_text}

-- where a line stands
abbrev pub place_of : LogLine → LinePlace
place_of l = record { log = l.log; line = l.number }

-- a request that a line asks: what became of it, whose it is, and where the line is
pub record Asked : Type 0 where
  pub became : Then
  pub profile : List ℕ
  pub request : Request
  pub place : LinePlace

-- a line that asks nothing: why, by the reason's order and its name, and where it is
pub record Skipped : Type 0 where
  pub order : ℕ
  pub name : List ℕ
  pub place : LinePlace

-- what a line's record asks, with the line's place
abbrev pub asked_at : RecordData → LinePlace → Asked
asked_at r place = record { became = r.became; profile = r.profile; request = r.request; place = place }

-- a reason's place in the order of reasons, and its name: those of rules come first, by their keywords
abbrev pub cause_order : Cause → ℕ
cause_order (Keyword word) = 0
cause_order (Because reason) = rank reason

-- the word of a cause
abbrev pub cause_name : Cause → List ℕ
cause_name (Keyword word) = word
cause_name (Because reason) = word_of reason

-- a line that asks nothing for that cause
abbrev pub skipped_for : Cause → LinePlace → Skipped
skipped_for cause place = record { order = cause_order cause; name = cause_name cause; place = place }

-- what a line asks, by what it says
abbrev pub asked_by : LogLine → Outcome → List Asked
asked_by l Another = []
asked_by l (AsksNothing cause) = []
asked_by l (AsksFor r) = asked_at r (place_of l) ∷ []

-- why a line asks nothing, if it is the access control's and does so
abbrev pub skipped_by : LogLine → Outcome → List Skipped
skipped_by l Another = []
skipped_by l (AsksNothing cause) = skipped_for cause (place_of l) ∷ []
skipped_by l (AsksFor r) = []

-- it is of the profiles and of the time that are wanted
abbrev pub is_wanted : Choice → List ℕ → Bool
is_wanted c bytes = is_chosen (map (λ name. name.items) c.profiles.now) c.since c.until bytes

-- nothing is left out: no profile is named, and neither end of a time is given
abbrev pub wants_all : Choice → Bool
wants_all c = length c.profiles.now == 0 && is_none c.since && is_none c.until

-- the lines that are wanted
abbrev pub wanted : Choice → List LogLine → List LogLine
wanted c ls = filter (λ (l : LogLine). is_wanted c l.bytes) ls

-- what the wanted lines ask
unfoldable pub requests_in : Choice → List LogLine → List Asked
requests_in c ls = flat_map (λ (l : LogLine). asked_by l (line_in l.bytes)) (wanted c ls)

-- the wanted lines that ask nothing
unfoldable pub skipped_in : Choice → List LogLine → List Skipped
skipped_in c ls = flat_map (λ (l : LogLine). skipped_by l (line_in l.bytes)) (wanted c ls)

-- how many lines aren't the access control's
unfoldable pub others_in : List LogLine → ℕ
others_in ls = count_by (λ (l : LogLine). is_another (line_in l.bytes)) ls

-- how many of the access control's aren't wanted
unfoldable pub left_in : Choice → List LogLine → ℕ
left_in c ls = count_by (λ (l : LogLine). not (is_another (line_in l.bytes)) && not (is_wanted c l.bytes)) ls

-- requests that are printed alike are counted together
abbrev pub asked_key : Asked → List ℕ
asked_key a = key_text a.became a.profile (word_text a.request)

-- lines are counted by their reasons
abbrev pub skipped_key : Skipped → List ℕ
skipped_key s = s.order ∷ s.name

-- a request of logs without where it lies in memory
abbrev pub entry_data : Entry → Counted Asked
entry_data e = record { item = record { became = e.then; profile = e.profile.items; request = e.request; place = e.first }; count = e.count }

-- skipped lines without their count
abbrev pub skipped_item : SkippedLines → Skipped
skipped_item s = record { order = s.reason.0; name = s.reason.1.now; place = s.first }

-- skipped lines without where they lie in memory
abbrev pub skipped_data : SkippedLines → Counted Skipped
skipped_data s = record { item = skipped_item s; count = s.count }

-- how an entry is found again
abbrev pub entry_key : Entry → List ℕ
entry_key e = key_text e.then e.profile.items e.word.items

-- for each key the map has the number of the first entry of that key, and else nothing
abbrev pub AreNumbered : {Y S : Type 0} → HashMap (Vec ℕ Y) ℕ S → List (List ℕ) → Type 0
AreNumbered numbers keys = (key : List ℕ) → get_by (λ k. bytes_eq key k.items) numbers ≡ position (λ k. bytes_eq k key) keys

-- the map has that number for that key besides
abbrev pub AddsKey : {Y S : Type 0} → HashMap (Vec ℕ Y) ℕ S → List ℕ → ℕ → HashMap (Vec ℕ Y) ℕ S → Type 0
AddsKey before key number after = (other : List ℕ) → get_by (λ k. bytes_eq other k.items) after ≡ option_or (get_by (λ k. bytes_eq other k.items) before) (if bytes_eq other key then Some number else None)

-- each entry's word is that of its request
abbrev pub HaveWords : List Entry → Type 0
HaveWords es = map (λ (e : Entry). e.word.items) es ≡ map (λ (e : Entry). word_text e.request) es

-- the entries are the distinct requests of these, each with the first line that asks it and with how many do; they are found by
-- their keys, and no more than 1,000,000
pub record AreFound {Y S : Type 0} (asked : List Asked) (es : List Entry) (numbers : HashMap (Vec ℕ Y) ℕ S) : Type 0 where
  pub counts : map entry_data es ≡ counted asked_key asked
  pub words : HaveWords es
  pub numbered : AreNumbered numbers (map entry_key es)
  pub within : length es ≤ most_requests

-- a line by itself
abbrev pub once : Skipped → Counted Skipped
once s = record { item = s; count = 1 }

-- what is kept of the lines that ask nothing, where each is wanted: each by itself
abbrev pub AreEach : List Skipped → Option (List SkippedLines) → Type 0
AreEach skipped None = Unit {0}
AreEach skipped (Some each) = map skipped_data each ≡ map once skipped

-- how many lines aren't wanted; nothing where all are
abbrev pub left_out_of : Choice → ℕ → Option ℕ
left_out_of c count = if wants_all c then None else Some (min count greatest)

-- how many distinct requests the wanted lines ask
abbrev pub distinct_in : Choice → List LogLine → ℕ
distinct_in c ls = length (firsts asked_key (requests_in c ls))

-- what is found in these lines, and in no others: the distinct requests by their first lines, the lines that ask nothing by their
-- reasons and, where it is kept, each; and how many lines there are, ask, ask nothing, are others' and aren't wanted
pub record IsReport (ls : List LogLine) (r : LogReport) : Type 0 where
  pub found : AreFound (requests_in r.choice ls) r.entries.items r.numbers
  pub skipped : map skipped_data r.skipped.items ≡ counted skipped_key (skipped_in r.choice ls)
  pub each : AreEach (skipped_in r.choice ls) (option_map (λ each. each.items) r.each_skipped)
  pub lines : r.lines ≡ min (length ls) greatest
  pub requests : r.requests ≡ min (length (requests_in r.choice ls)) greatest
  pub skipped_count : r.skipped_count ≡ min (length (skipped_in r.choice ls)) greatest
  pub other : r.other ≡ min (others_in ls) greatest
  pub left_out : r.left_out ≡ left_out_of r.choice (left_in r.choice ls)

-- The same lines are wanted, and each skipped one is noted or none is.
abbrev pub HasSameSettings : LogReport → LogReport → Type 0
HasSameSettings first r = (r.choice ≡ first.choice) × (is_some r.each_skipped ≡ is_some first.each_skipped)

-- refused for want of memory, or since something is so
abbrev pub IsRefused : Unread → Type 0 → Type 0
IsRefused NoMemory P = Unit {0}
IsRefused TooLarge P = P
IsRefused _ P = ⊥
