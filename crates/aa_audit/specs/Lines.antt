-- Audit lines.
-- Source: own.
use Rattle.std.specs.Prelude.{ℕ, List, ◌++◌, codes, Option, option_map, option_and_then}
use Rattle.aa_model.specs.declared.policy.Policy.{Policy}
use Rattle.aa_model.specs.declared.label.Label.{Label}
use Rattle.aa_model.specs.declared.request.Request.{Request}
use Rattle.aa_model.specs.declared.answer.Answer.{Answer}
use Rattle.aa_model.specs.declared.answer.Note.{Note}
use Rattle.aa_model.specs.declared.answer.NoteWord.{NoteWord}
use Rattle.aa_model.specs.declared.answer.NoteWord.TheVariants.{Denied, Allowed, Audit}
use Rattle.aa_compile.specs.Labels.{label_name}
use Rattle.aa_base.specs.Values.{quoted, value}
use Rattle.aa_audit.specs.Keys.{key, operation_name, keys}

-- the word of a note
abbrev pub word_text : NoteWord → List ℕ
word_text Denied = codes "DENIED"
word_text Allowed = codes "ALLOWED"
word_text Audit = codes "AUDIT"

-- what was decided, on what operation, for a task with which label
unfoldable pub head_text : NoteWord → List ℕ → List ℕ → List ℕ
head_text word operation profile =
    codes "apparmor=" ++ quoted (word_text word) ++ key (codes "operation") (quoted operation) ++ key (codes "profile") (value profile)

-- the line of a note, if the request is an operation that has lines
unfoldable pub note_line : List Policy → Label → Request → Answer → Note → Option (List ℕ)
note_line policies before request answer note =
    option_map (λ operation. head_text note.word operation (label_name policies before) ++ keys policies request answer note)
    (operation_name request)

-- the line of an answer, if it has a note; the label is the one before the answer
abbrev pub line : List Policy → Label → Request → Answer → Option (List ℕ)
line policies before request answer = option_and_then (note_line policies before request answer) answer.note
