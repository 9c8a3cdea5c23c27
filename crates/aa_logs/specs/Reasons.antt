-- Why lines ask nothing, as it is printed.
-- Source: own.
use Rattle.std.specs.Prelude.{ℕ, List, codes}
use Rattle.aa_logs.specs.declared.line.Reason.{Reason}
use Rattle.aa_logs.specs.declared.line.Reason.TheVariants.{Rule, NoProfile, Namespace, Stacked, NoNewPrivs, Path, Mask, Name, Capability, Socket, Operation, Status, OldForm, Broken}

-- the order in which reasons are printed
abbrev pub rank : Reason → ℕ
rank (Rule keyword) = 0
rank NoProfile = 1
rank Namespace = 2
rank Stacked = 3
rank NoNewPrivs = 4
rank Path = 5
rank Mask = 6
rank Name = 7
rank Capability = 8
rank Socket = 9
rank Operation = 10
rank Status = 11
rank OldForm = 12
rank Broken = 13

-- a rule's keyword, or what the reason is called
abbrev pub word_of : Reason → List ℕ
word_of (Rule keyword) = keyword.now
word_of NoProfile = codes "no-profile"
word_of Namespace = codes "namespace"
word_of Stacked = codes "stacked"
word_of NoNewPrivs = codes "no-new-privs"
word_of Path = codes "path"
word_of Mask = codes "mask"
word_of Name = codes "name"
word_of Capability = codes "capability"
word_of Socket = codes "socket"
word_of Operation = codes "operation"
word_of Status = codes "status"
word_of OldForm = codes "old-form"
word_of Broken = codes "broken"
