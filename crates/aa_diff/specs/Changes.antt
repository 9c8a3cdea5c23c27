-- How a request was answered and is answered, in words.
-- Source: own.
use Rattle.std.specs.Prelude.{ℕ, List, [], ◌++◌, ◌==◌, ◌&&◌, ◌||◌, not, Bool, false, codes, Option, Some, None, if◌then◌else◌}
use Rattle.std.specs.Str.{bytes_eq}
use Rattle.aa_base.specs.Values.{value, mask}
use Rattle.aa_model.specs.declared.policy.Policy.{Policy}
use Rattle.aa_model.specs.declared.label.Label.{Label}
use Rattle.aa_model.specs.declared.label.Label.TheVariants.{Unconfined, Confined}
use Rattle.aa_model.specs.declared.answer.Answer.{Answer}
use Rattle.aa_model.specs.declared.answer.Note.{Note}
use Rattle.aa_model.specs.declared.answer.NoteWord.{NoteWord}
use Rattle.aa_model.specs.declared.answer.NoteWord.TheVariants.{Denied, Allowed, Audit}
use Rattle.aa_compile.specs.Labels.{label_name}
use Rattle.aa_differences.specs.declared.at_labels.Difference.{Difference}

-- both are one label
abbrev pub is_same : Label → Label → Bool
is_same (Unconfined j) (Unconfined k) = j == k
is_same (Confined j m) (Confined k n) = j == k && m == n
is_same _ _ = false

-- an answer moves a task with that label
abbrev pub moves : Label → Answer → Bool
moves label a = a.granted && not (is_same label a.label)

-- one of the answers moves the task, so that both tell the label
abbrev pub tells_labels : Difference → Bool
tells_labels d = moves d.from d.old || moves d.to d.new

-- a label in a line
abbrev pub label_word : List Policy → Label → List ℕ
label_word ps (Unconfined k) = codes "unconfined"
label_word ps (Confined k n) = codes "label " ++ value (label_name ps (Confined k n))

-- what is granted: the label where it is told
abbrev pub granted_word : List Policy → Bool → Label → List ℕ
granted_word ps tells label = if tells then label_word ps label else codes "granted"

-- the environment is scrubbed
abbrev pub scrubbed_text : Bool → List ℕ
scrubbed_text scrub = if scrub then codes " scrubbed" else []

-- what an answer says
abbrev pub answer_word : List Policy → Bool → Answer → List ℕ
answer_word ps tells a = if a.granted then granted_word ps tells a.label ++ scrubbed_text a.scrub else codes "denied"

-- by what is reported
abbrev pub said_of : NoteWord → List ℕ
said_of Allowed = codes "granted by complain mode"
said_of Denied = codes "reported"
said_of Audit = codes "reported"

-- what is said of a note
abbrev pub note_word : Option Note → List ℕ
note_word None = codes "not reported"
note_word (Some n) = said_of n.word

-- the permissions that are reported, if there are any
abbrev pub note_letters : Option Note → List ℕ
note_letters None = []
note_letters (Some n) = if n.perms.0 == 0 then [] else codes " " ++ mask n.perms.0

-- two words about the answers
abbrev pub both_text : List ℕ → List ℕ → List ℕ
both_text before after = before ++ codes " -> " ++ after

-- what is reported of each answer, told apart by the permissions where both are reported alike
abbrev pub notes_text : Option Note → Option Note → List ℕ
notes_text a b =
    if bytes_eq (note_word a) (note_word b) then note_word a ++ note_letters a ++ codes " -> " ++ note_word b ++ note_letters b
    else both_text (note_word a) (note_word b)

-- what each answer says, or where both say the same what is reported of each
abbrev pub change_by : Difference → List ℕ → List ℕ → List ℕ
change_by d before after = if bytes_eq before after then notes_text d.old.note d.new.note else both_text before after

-- how a request was answered, and how it is answered
abbrev pub change_text : List Policy → List Policy → Difference → List ℕ
change_text ps qs d = change_by d (answer_word ps (tells_labels d) d.old) (answer_word qs (tells_labels d) d.new)
