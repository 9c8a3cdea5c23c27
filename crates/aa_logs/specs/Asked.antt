-- What the fields of a line ask, and why they ask nothing.
-- Source: as the kernel names classes and operations; as the kernel wrote masks; own.
use Rattle.std.specs.Prelude.{◌≡◌, ℕ, ◌+◌, ◌==◌, ◌||◌, ◌&&◌, List, [], ◌∷◌, take, drop, codes, Bool, true, false, if◌then◌else◌, Option, Some, None, nat_eq, Result, Ok, Err, MatchResult}
use Rattle.std.specs.List.{starts_with}
use Rattle.std.specs.Option.{option_and_then, option_or}
use Rattle.std.specs.Str.{bytes_eq}
use Rattle.aa_base.specs.Tables.{number_in as number_among, capability_names, family_names, sock_type_names}
use Rattle.aa_model.specs.Requests.{is_path, is_mask, is_wanted_name}
use Rattle.aa_model.specs.declared.request.Request.{Request}
use Rattle.aa_model.specs.declared.request.Request.TheVariants.{File, Link, Exec, Cap, Net, Change}
use Rattle.aa_model.specs.declared.fault.RequestFault.{RequestFault}
use Rattle.aa_model.specs.declared.fault.RequestFault.TheVariants as fault
use Rattle.aa_logs.specs.declared.line.Reason.{Reason}
use Rattle.aa_logs.specs.declared.line.Reason.TheVariants.{Rule, NoProfile, Namespace, Stacked, NoNewPrivs, Path, Mask, Name, Capability, Socket, Operation, Status, OldForm, Broken}
use Rattle.aa_logs.specs.declared.line.Refusal.{Refusal}
use Rattle.aa_logs.specs.declared.line.Refusal.TheVariants.{NoMemory, Skipped}
use Rattle.aa_logs.specs.Words.{WordData}
use Rattle.aa_logs.specs.Masks.{letters_bits, owned_by}
use Rattle.aa_logs.specs.Fields.{raw_in, text_in, place_of, number_in}

-- why a line asks nothing: it is about a rule of that keyword, or there is another reason
pub data Cause : Type 0 where
  Keyword : List ℕ → Cause
  Because : Reason → Cause

-- why a line asks nothing, without where its word lies in memory
abbrev pub cause_of : Reason → Cause
cause_of (Rule word) = Keyword word.now
cause_of r = Because r

-- a refusal for another cause than memory is the one of the definition
abbrev pub Refuses : {A : Type 0} → Refusal → Result A Cause → Type 0
Refuses NoMemory x = Unit {0}
Refuses (Skipped r) x = x ≡ Err (cause_of r)

-- a result is the one of the definition, unless memory ran out
abbrev pub Tells : {T A : Type 0} → (T → A) → Result T Refusal → Result A Cause → Type 0
Tells shown r x = MatchResult r (λ t. x ≡ Ok (shown t)) (λ e. Refuses e x)

-- why a record gives no request, by why that is refused
abbrev pub because : RequestFault → Refusal
because fault.NoMemory = NoMemory
because fault.BadPath = Skipped Path
because fault.BadMask = Skipped Mask
because fault.BadName = Skipped Name

-- a request that can't be made, for the reason that its fault is
abbrev pub made_of : Result Request RequestFault → Result Request Refusal
made_of (Ok r) = Ok r
made_of (Err f) = Err (because f)

-- the keyword of the rule that never decides here, of a class or an operation
unfoldable pub keyword_of : List ℕ → Option (List ℕ)
keyword_of word =
    if starts_with nat_eq word (codes "dbus_") then Some (codes "dbus")
    else (if starts_with nat_eq word (codes "uring_") then Some (codes "io_uring")
    else (if bytes_eq word (codes "ptrace") then Some (codes "ptrace")
    else (if bytes_eq word (codes "signal") then Some (codes "signal")
    else (if bytes_eq word (codes "mount") then Some (codes "mount")
    else (if bytes_eq word (codes "umount") then Some (codes "umount")
    else (if bytes_eq word (codes "remount") then Some (codes "remount")
    else (if bytes_eq word (codes "pivotroot") then Some (codes "pivot_root")
    else (if bytes_eq word (codes "setrlimit") then Some (codes "set")
    else (if bytes_eq word (codes "posix_mqueue") || bytes_eq word (codes "sysv_mqueue") then Some (codes "mqueue")
    else (if bytes_eq word (codes "io_uring") then Some (codes "io_uring")
    else (if bytes_eq word (codes "namespace") || bytes_eq word (codes "userns_create") then Some (codes "userns")
    else (if bytes_eq word (codes "change_hat") then Some (codes "change_hat")
    else (if bytes_eq word (codes "change_onexec") then Some (codes "change_profile")
    else (if bytes_eq word (codes "stack") || bytes_eq word (codes "stack_onexec") then Some (codes "stack")
    else None))))))))))))))

-- that of a line: of its class, or else of its operation
abbrev pub passed_over : List ℕ → List WordData → Option (List ℕ)
passed_over operation ws = option_or (option_and_then keyword_of (raw_in (codes "class") ws)) (keyword_of operation)

-- LETTERS:: are of an owner, ::LETTERS of another; letters on both sides are no mask
abbrev pub halves_by : List ℕ → List ℕ → Option (List ℕ × Option Bool)
halves_by front [] = Some (front, Some true)
halves_by [] (b ∷ bs) = Some (b ∷ bs, Some false)
halves_by (a ∷ rest) (b ∷ bs) = None

-- what stands before the colons of a mask, and whether the object is owned
abbrev pub halves_at : List ℕ → Option ℕ → Option (List ℕ × Option Bool)
halves_at text None = Some (text, None)
halves_at text (Some n) = halves_by (take n text) (drop (n + 2) text)

-- the same of a whole mask
abbrev pub halves_in : List ℕ → Option (List ℕ × Option Bool)
halves_in text = halves_at text (place_of (codes "::") text)

-- a mask's permissions, and whose the object is by an old mask; none is no mask
abbrev pub mask_of : Option ℕ → Option Bool → Option (ℕ × Option Bool)
mask_of None by_mask = None
mask_of (Some bits) by_mask = if bits == 0 then None else Some (bits, by_mask)

-- the permissions that a mask's letters ask, and whether the object is owned
abbrev pub asked_mask : List ℕ → Option (ℕ × Option Bool)
asked_mask text = option_and_then (λ h. mask_of (letters_bits 0 h.0) h.1) (halves_in text)

-- whether the object is the task's user's, by the fields and an old mask
abbrev pub owned_in : Option Bool → List WordData → Bool
owned_in by_mask ws = owned_by (option_and_then number_in (raw_in (codes "fsuid") ws)) (option_and_then number_in (raw_in (codes "ouid") ws)) by_mask

-- whose the object is, by the halves of a requested mask, where it has some
abbrev pub mask_owner : List WordData → Option Bool
mask_owner ws = option_and_then (λ h. h.1) (option_and_then halves_in (raw_in (codes "requested_mask") ws))

-- the request for a capability, by its number
abbrev pub cap_by : Option ℕ → Result Request Cause
cap_by None = Err (Because Capability)
cap_by (Some c) = Ok (Cap c)

-- a capability by its name
abbrev pub cap_in : List WordData → Result Request Cause
cap_in ws = cap_by (option_and_then (number_among capability_names) (option_or (raw_in (codes "capname") ws) (raw_in (codes "name") ws)))

-- the request to execute, of a path that can be asked for
abbrev pub exec_by : Bool → Option (List ℕ) → Result Request Cause
exec_by owned None = Err (Because Path)
exec_by owned (Some path) = if is_path path then Ok (Exec (record { path = path; owned = owned })) else Err (Because Path)

-- an execution of the file by its name
abbrev pub exec_in : List WordData → Result Request Cause
exec_in ws = exec_by (owned_in (mask_owner ws) ws) (text_in (codes "name") ws)

-- the request for a link, of two paths that can be asked for
abbrev pub link_by : Bool → Option (List ℕ) → Option (List ℕ) → Result Request Cause
link_by owned None target = Err (Because Path)
link_by owned (Some link) None = Err (Because Path)
link_by owned (Some link) (Some target) = if is_path link && is_path target then Ok (Link (record { link = link; target = target; owned = owned })) else Err (Because Path)

-- a link at its name to its target, or to its second name
abbrev pub link_in : List WordData → Result Request Cause
link_in ws = link_by (owned_in (mask_owner ws) ws) (text_in (codes "name") ws) (option_or (text_in (codes "target") ws) (text_in (codes "name2") ws))

-- the request to change the profile, of a name that can be asked for
abbrev pub change_by : Option (List ℕ) → Result Request Cause
change_by None = Err (Because Name)
change_by (Some name) = if is_wanted_name name then Ok (Change name) else Err (Because Name)

-- a change to its target, or to its name
abbrev pub change_in : List WordData → Result Request Cause
change_in ws = change_by (option_or (text_in (codes "target") ws) (text_in (codes "name") ws))

-- the request for a socket, by family and type
abbrev pub socket_by : Option ℕ → Option ℕ → Result Request Cause
socket_by None kind = Err (Because Socket)
socket_by (Some family) None = Err (Because Socket)
socket_by (Some family) (Some kind) = Ok (Net family kind)

-- a socket by its family and type; of unix sockets other rules speak
abbrev pub net_by : List ℕ → List ℕ → Result Request Cause
net_by family kind = if bytes_eq family (codes "unix") then Err (Keyword (codes "unix")) else socket_by (number_among family_names family) (number_among sock_type_names kind)

-- the request for a file, of a path and a mask that can be asked for
abbrev pub masked_file : List WordData → List ℕ → Option (ℕ × Option Bool) → Result Request Cause
masked_file ws path None = Err (Because (if is_path path then Mask else Path))
masked_file ws path (Some m) =
    if is_path path then (if is_mask m.0 then Ok (File (record { path = path; mask = record { 0 = m.0 }; owned = owned_in m.1 ws })) else Err (Because Mask)) else Err (Because Path)

-- the request for a file, by its path and the letters of its mask
abbrev pub file_by : List WordData → List ℕ → Option (List ℕ) → Result Request Cause
file_by ws letters None = Err (Because Operation)
file_by ws letters (Some path) = masked_file ws path (asked_mask letters)

-- the request for a file, of a record with these letters
abbrev pub file_in : List WordData → List ℕ → Result Request Cause
file_in ws letters = file_by ws letters (text_in (codes "name") ws)

-- the request for a file, by the letters that the record has
abbrev pub requested_by : List WordData → Option (List ℕ) → Result Request Cause
requested_by ws None = Err (Because Operation)
requested_by ws (Some letters) = file_in ws letters

-- the use of the file by its name that the requested mask asks for
abbrev pub requested : List WordData → Result Request Cause
requested ws = requested_by ws (raw_in (codes "requested_mask") ws)

-- the request for an object, or for a socket where the record has a family and a type
abbrev pub object_by : List WordData → Option (List ℕ) → Option (List ℕ) → Result Request Cause
object_by ws None kind = requested ws
object_by ws (Some family) None = requested ws
object_by ws (Some family) (Some kind) = net_by family kind

-- a socket where family and type are told, or else the use of a file by the mask that is asked for
abbrev pub object_in : List WordData → Result Request Cause
object_in ws = object_by ws (raw_in (codes "family") ws) (raw_in (codes "sock_type") ws)

-- the request of an operation that rules decide here
unfoldable pub by_operation : List WordData → List ℕ → Result Request Cause
by_operation ws operation =
    if bytes_eq operation (codes "capable") then cap_in ws
    else (if bytes_eq operation (codes "exec") then exec_in ws
    else (if bytes_eq operation (codes "link") || bytes_eq operation (codes "inode_link") then link_in ws
    else (if bytes_eq operation (codes "change_profile") then change_in ws
    else object_in ws)))

-- what a record asks, unless its operation is that of rules that never decide
abbrev pub unless_over : List WordData → List ℕ → Option (List ℕ) → Result Request Cause
unless_over ws operation None = by_operation ws operation
unless_over ws operation (Some word) = Err (Keyword word)

-- the field is there, and is that text
abbrev pub is_text_there : List ℕ → Option (List ℕ) → Bool
is_text_there wanted None = false
is_text_there wanted (Some text) = bytes_eq text wanted

-- what a record asks, by its operation
abbrev pub of_operation : List WordData → Option (List ℕ) → Result Request Cause
of_operation ws None = Err (Because Broken)
of_operation ws (Some operation) =
    if is_text_there (codes "no new privs") (raw_in (codes "info") ws) then Err (Because NoNewPrivs) else unless_over ws operation (passed_over operation ws)

-- what the fields of a line ask, by their operation
unfoldable pub asked_in : List WordData → Result Request Cause
asked_in ws = of_operation ws (raw_in (codes "operation") ws)
