-- What the program itself prints of a request, read as a line of a log.
-- Source: own.
use Rattle.std.specs.Prelude.{◌≡◌, ◌≤◌, ℕ, List, length, codes, Bool, true, not, ◌&&◌, nat_eq, Some, None}
use Rattle.std.specs.List.{starts_with}
use Rattle.aa_model.specs.declared.policy.Policy.{Policy}
use Rattle.aa_model.specs.declared.label.Label.{Label}
use Rattle.aa_model.specs.declared.request.Request.{Request}
use Rattle.aa_model.specs.declared.answer.Answer.{Answer}
use Rattle.aa_model.specs.declared.answer.Note.{Note}
use Rattle.aa_model.specs.declared.answer.NoteWord.{NoteWord}
use Rattle.aa_model.specs.declared.answer.NoteWord.TheVariants as note
use Rattle.aa_compile.specs.Labels.{label_name}
use Rattle.aa_audit.specs.Lines.{line}
use Rattle.aa_logs.specs.declared.line.Then.{Then}
use Rattle.aa_logs.specs.declared.line.Then.TheVariants.{Denied, Allowed, Granted}
use Rattle.aa_logs.specs.Outcomes.{AsksFor}
use Rattle.aa_logs.specs.Records.{holds_part, line_in}
use Rattle.aa_notation.specs.Parts.{are_bytes}
use Rattle.aa_round_trip_laws.specs.Kinds.{unowned, is_told}

-- what became of a request that has a note of that word
abbrev pub became : NoteWord → Then
became note.Denied = Denied
became note.Allowed = Allowed
became note.Audit = Granted

-- a profile's name that a line can tell: of no other namespace, and not stacked on another
abbrev pub is_own_name : List ℕ → Bool
is_own_name name = are_bytes name && not (starts_with nat_eq name (codes ":")) && not (holds_part (codes "//&") name)

-- the line of an answer with a note, if it isn't too long for a log, is read as a record of that profile, request and note
abbrev pub OwnLinesAreRead : Type 0
OwnLinesAreRead = (policies : List Policy) (before : Label) (request : Request) (answer : Answer) (n : Note) (text : List ℕ)
    → answer.note ≡ Some n → line policies before request answer ≡ Some text → length text ≤ 65536
    → is_own_name (label_name policies before) ≡ true → is_told request ≡ true
    → line_in text ≡ AsksFor (record { became = became n.word; profile = label_name policies before; request = unowned request; pid = None })
