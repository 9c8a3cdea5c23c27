-- What differs by the kind of a request: when it can be made, when a line of a log tells it, and what of it.
-- Source: own.
use Rattle.std.specs.Prelude.{◌≡◌, ◌<◌, ℕ, length, codes, Bool, true, false, not, ◌&&◌, nat_lt}
use Rattle.std.specs.Str.{bytes_eq}
use Rattle.aa_base.specs.Tables.{entry, capability_names, family_names, sock_type_names}
use Rattle.aa_model.specs.Requests.{is_path, is_mask, is_wanted_name}
use Rattle.aa_model.specs.declared.request.Request.{Request}
use Rattle.aa_model.specs.declared.request.Request.TheVariants.{File, Link, Exec, Cap, Net, Change, Reload}
use Rattle.aa_notation.specs.Parts.{are_bytes, is_path_of_bytes}

-- a request can be made by the calls of its kind, in a job of that many policies
abbrev pub CanBeMade : ℕ → Request → Type 0
CanBeMade policies (File f) = (is_path f.path ≡ true) × (is_mask f.mask.0 ≡ true)
CanBeMade policies (Link l) = (is_path l.link ≡ true) × (is_path l.target ≡ true)
CanBeMade policies (Exec e) = is_path e.path ≡ true
CanBeMade policies (Cap c) = c < length capability_names
CanBeMade policies (Net family kind) = (family < length family_names) × (kind < length sock_type_names)
CanBeMade policies (Change name) = is_wanted_name name ≡ true
CanBeMade policies (Reload policy) = policy < policies

-- a line doesn't tell whose the file is
abbrev pub unowned : Request → Request
unowned (File r) = File (record { path = r.path; mask = r.mask; owned = false })
unowned (Link r) = Link (record { link = r.link; target = r.target; owned = false })
unowned (Exec r) = Exec (record { path = r.path; owned = false })
unowned (Cap n) = Cap n
unowned (Net family kind) = Net family kind
unowned (Change name) = Change name
unowned (Reload k) = Reload k

-- a request that can be made, and that rules decide whose lines are asked: neither a reload nor a unix socket
abbrev pub is_told : Request → Bool
is_told (File r) = is_path_of_bytes r.path && is_mask r.mask.0
is_told (Link r) = is_path_of_bytes r.link && is_path_of_bytes r.target
is_told (Exec r) = is_path_of_bytes r.path
is_told (Cap n) = nat_lt n (length capability_names)
is_told (Net family kind) =
    nat_lt family (length family_names) && nat_lt kind (length sock_type_names) && not (bytes_eq (entry family_names family) (codes "unix"))
is_told (Change name) = are_bytes name && is_wanted_name name
is_told (Reload k) = false
