-- The keys of the fields that records are read by, and the words of a line by these.
-- Source: as the kernel writes fields.
use Rattle.std.specs.Prelude.{◌≡◌, ℕ, suc, zero, ◌≤◌, ◌==◌, List, [], ◌∷◌, length, find, codes, if◌then◌else◌, Option, Some, None, slice_get, slice_index_or, slice_set}
use Rattle.std.specs.Str.{bytes_eq}
use Rattle.aa_logs.specs.declared.key.Key.{Key}
use Rattle.aa_logs.specs.declared.key.Key.TheVariants.{Apparmor, Kind, Profile, Label, Namespace, Pid, Operation, Info, Class, RequestedMask, Fsuid, Ouid, Capname, Name, Target, Name2, Family, SockType}
use Rattle.aa_logs.specs.Words.{WordData}
use Rattle.aa_logs.specs.Fields.{field_in}

-- how a key is spelled
abbrev pub key_name : Key → List ℕ
key_name Apparmor = codes "apparmor"
key_name Kind = codes "type"
key_name Profile = codes "profile"
key_name Label = codes "label"
key_name Namespace = codes "namespace"
key_name Pid = codes "pid"
key_name Operation = codes "operation"
key_name Info = codes "info"
key_name Class = codes "class"
key_name RequestedMask = codes "requested_mask"
key_name Fsuid = codes "fsuid"
key_name Ouid = codes "ouid"
key_name Capname = codes "capname"
key_name Name = codes "name"
key_name Target = codes "target"
key_name Name2 = codes "name2"
key_name Family = codes "family"
key_name SockType = codes "sock_type"

-- its place among all, from 0
abbrev pub number : Key → ℕ
number Apparmor = 0
number Kind = 1
number Profile = 2
number Label = 3
number Namespace = 4
number Pid = 5
number Operation = 6
number Info = 7
number Class = 8
number RequestedMask = 9
number Fsuid = 10
number Ouid = 11
number Capname = 12
number Name = 13
number Target = 14
number Name2 = 15
number Family = 16
number SockType = 17

-- the one of these that is spelled so
abbrev pub among : List Key → List ℕ → Option Key
among keys text = find (λ k. bytes_eq text (key_name k)) keys

-- the keys of so many bytes
abbrev pub keys_of : ℕ → List Key
keys_of n =
    if n == 3 then Pid ∷ []
    else (if n == 4 then Name ∷ Ouid ∷ Kind ∷ Info ∷ []
    else (if n == 5 then Fsuid ∷ Class ∷ Label ∷ Name2 ∷ []
    else (if n == 6 then Family ∷ Target ∷ []
    else (if n == 7 then Profile ∷ Capname ∷ []
    else (if n == 8 then Apparmor ∷ []
    else (if n == 9 then Operation ∷ Namespace ∷ SockType ∷ []
    else (if n == 14 then RequestedMask ∷ []
    else [])))))))

-- the key that is spelled so
unfoldable pub key_of : List ℕ → Option Key
key_of text = among (keys_of (length text)) text

-- the word at a place that is counted from 1; none at 0
abbrev pub word_at : List WordData → ℕ → Option WordData
word_at ws zero = None
word_at ws (suc n) = slice_get ws n

-- the places of keys are those of the last words that have them
pub record IsPlaced (places : List ℕ) (ws : List WordData) : Type 0 where
  pub within : (k : Key) → slice_index_or places (number k) 0 ≤ length ws
  pub found : (k : Key) → word_at ws (slice_index_or places (number k) 0) ≡ field_in (key_name k) ws

-- the places where a word that has that key stands at that place
abbrev pub placed : Option Key → ℕ → List ℕ → List ℕ
placed None place places = places
placed (Some k) place places = slice_set places (number k) place
