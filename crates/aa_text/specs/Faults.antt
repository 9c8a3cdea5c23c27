-- Faults as they are printed.
-- Source: own.
use Rattle.std.specs.Prelude.{ℕ, List, [], ◌++◌, map, flat_map, codes, decimal, Option, Some, None, Vec}
use Rattle.std.specs.declared.alloc.Global.{Global}
use Rattle.aa_text.specs.declared.position.PlaceAt.{PlaceAt}
use Rattle.aa_text.specs.declared.fault.Link.{Link}
use Rattle.aa_text.specs.declared.fault.FaultReport.{FaultReport}
use Rattle.aa_text.specs.Visible.{all_visible}
use Rattle.aa_text.specs.Texts.{where_text}
use Rattle.aa_text.specs.Jsons.{json_text, json_bytes, json_place, key_text, member_text, list_text}

-- a path as it is shown, and a place in it, if there is one
abbrev pub where_if : List ℕ → Option PlaceAt → List ℕ
where_if path None = all_visible path
where_if path (Some p) = where_text path p

-- PATH:LINE:COLUMN: KIND: SENTENCE, the place where there is one; control bytes but tab are shown as ?
unfoldable pub head_line : FaultReport → List ℕ
head_line f = where_if f.path.items f.place ++ codes ": " ++ f.kind.now ++ codes ": " ++ all_visible f.message.items ++ codes "\n"

-- what stands before each include on the way to a fault
unfoldable pub included_from : List ℕ
included_from = codes "      included from "

-- the line of an include on the way to a fault
unfoldable pub link_line : Link → List ℕ
link_line l = included_from ++ where_text l.path.items l.place ++ codes "\n"

-- a line that says more of a fault
abbrev pub further_line : Vec ℕ Global → List ℕ
further_line line = codes "      " ++ all_visible line.items ++ codes "\n"

-- a fault: where and why, the line with a caret, the includes on the way there, and what else helps
abbrev pub fault_text : FaultReport → List ℕ
fault_text f = head_line f ++ f.excerpt.items ++ flat_map link_line f.chain.items ++ flat_map further_line f.further.items

-- an include on the way to a fault, as JSON
unfoldable pub json_link : Link → List ℕ
json_link l = codes "{" ++ json_place l.path.items (Some l.place) ++ codes "}"

-- the includes on the way to a fault, as a member
unfoldable pub json_chain : List Link → List ℕ
json_chain links = key_text (codes "chain") ++ list_text (map json_link links)

-- the byte of a place, as a member
abbrev pub byte_member : Option PlaceAt → List ℕ
byte_member None = []
byte_member (Some p) = member_text (codes "byte") (decimal p.byte)

-- the member of a fault's kind
unfoldable pub json_kind : List ℕ → List ℕ
json_kind kind = codes "{" ++ key_text (codes "kind") ++ json_text kind ++ codes ","

-- the member of a fault's sentence
unfoldable pub json_message : List ℕ → List ℕ
json_message message = member_text (codes "message") (json_bytes message) ++ codes ","

-- a fault as a JSON object
abbrev pub json_fault : FaultReport → List ℕ
json_fault f = json_kind f.kind.now ++ json_place f.path.items f.place ++ byte_member f.place ++ json_message f.message.items ++ json_chain f.chain.items ++ codes "}"
