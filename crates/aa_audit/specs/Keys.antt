-- The operation of an audit line, and the keys that stand behind its profile, for each kind of request.
-- Source: capabilities(7); own.
use Rattle.std.specs.Prelude.{ℕ, List, [], ◌++◌, codes, decimal, if◌then◌else◌, Option, Some, None}
use Rattle.aa_base.specs.Permissions.{only_link, only_exec}
use Rattle.aa_model.specs.declared.policy.Policy.{Policy}
use Rattle.aa_base.specs.Tables.{entry, capability_names, family_names, sock_type_names}
use Rattle.aa_model.specs.Requests.{RequestedFile, RequestedLink, RequestedExec}
use Rattle.aa_model.specs.declared.request.Request.{Request}
use Rattle.aa_model.specs.declared.request.Request.TheVariants.{File, Link, Exec, Cap, Net, Change, Reload}
use Rattle.aa_model.specs.declared.answer.Answer.{Answer}
use Rattle.aa_model.specs.declared.answer.Note.{Note}
use Rattle.aa_model.specs.declared.answer.NoteWord.{NoteWord}
use Rattle.aa_model.specs.declared.answer.NoteWord.TheVariants.{Denied, Allowed, Audit}
use Rattle.aa_compile.specs.Labels.{label_name}
use Rattle.aa_base.specs.Values.{quoted, value, mask}

-- a key and its value, behind a space
unfoldable pub key : List ℕ → List ℕ → List ℕ
key name text = codes " " ++ name ++ codes "=" ++ text

-- the permissions that are blocked; a grant of all that was asked for has no such key
abbrev pub denied_key : NoteWord → ℕ → List ℕ
denied_key Denied bits = key (codes "denied_mask") (mask bits)
denied_key Allowed bits = key (codes "denied_mask") (mask bits)
denied_key Audit bits = []

-- the label that an execution leads to, where it is granted
abbrev pub target_key : List Policy → Answer → List ℕ
target_key policies answer = if answer.granted then key (codes "target") (value (label_name policies answer.label)) else []

-- the keys of a line on a file
abbrev pub file_keys : RequestedFile → Note → List ℕ
file_keys r note =
    key (codes "name") (value r.path) ++ key (codes "requested_mask") (mask r.mask.0) ++ denied_key note.word note.perms.0

-- the keys of a line on a link
abbrev pub link_keys : RequestedLink → Note → List ℕ
link_keys r note =
    key (codes "name") (value r.link) ++ key (codes "target") (value r.target) ++ key (codes "requested_mask") (mask only_link)
    ++ denied_key note.word note.perms.0

-- the keys of a line on an execution
abbrev pub exec_keys : List Policy → RequestedExec → Answer → NoteWord → List ℕ
exec_keys policies r answer word =
    key (codes "name") (value r.path) ++ key (codes "requested_mask") (mask only_exec) ++ denied_key word only_exec ++ target_key policies answer

-- the keys of a line on a capability
abbrev pub capability_keys : ℕ → List ℕ
capability_keys n = key (codes "capability") (decimal n) ++ key (codes "capname") (quoted (entry capability_names n))

-- the keys of a line on a socket
abbrev pub network_keys : ℕ → ℕ → List ℕ
network_keys family kind =
    key (codes "family") (quoted (entry family_names family)) ++ key (codes "sock_type") (quoted (entry sock_type_names kind))

-- the name that was asked for
abbrev pub change_keys : List ℕ → List ℕ
change_keys name = key (codes "target") (value name)

-- how the operation of a request is called; a reload is none
abbrev pub operation_name : Request → Option (List ℕ)
operation_name (File r) = Some (codes "file")
operation_name (Link r) = Some (codes "link")
operation_name (Exec r) = Some (codes "exec")
operation_name (Cap n) = Some (codes "capable")
operation_name (Net family kind) = Some (codes "net")
operation_name (Change name) = Some (codes "change_profile")
operation_name (Reload k) = None

-- the keys of a line, by the kind of its request
abbrev pub keys : List Policy → Request → Answer → Note → List ℕ
keys policies (File r) answer note = file_keys r note
keys policies (Link r) answer note = link_keys r note
keys policies (Exec r) answer note = exec_keys policies r answer note.word
keys policies (Cap n) answer note = capability_keys n
keys policies (Net family kind) answer note = network_keys family kind
keys policies (Change name) answer note = change_keys name
keys policies (Reload k) answer note = []
