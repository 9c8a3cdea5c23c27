-- Why lines ask nothing, by what is printed of it.
-- Source: own.
use Rattle.std.specs.Prelude.{ℕ, ◌-◌, List, [], ◌∷◌, codes, Option, option_map}
use Rattle.aa_base.specs.Tables.{entry, number_in}

-- the reasons by their names: first the keywords of rules that never decide, then the others in the order in which they are printed
unfoldable pub reason_names : List (List ℕ)
reason_names =
    codes "dbus" ∷ codes "io_uring" ∷ codes "ptrace" ∷ codes "signal" ∷ codes "mount" ∷ codes "umount" ∷ codes "remount"
    ∷ codes "pivot_root" ∷ codes "set" ∷ codes "mqueue" ∷ codes "userns" ∷ codes "change_hat" ∷ codes "change_profile" ∷ codes "stack"
    ∷ codes "unix" ∷ codes "no-profile" ∷ codes "namespace" ∷ codes "stacked" ∷ codes "no-new-privs" ∷ codes "path" ∷ codes "mask"
    ∷ codes "name" ∷ codes "capability" ∷ codes "socket" ∷ codes "operation" ∷ codes "status" ∷ codes "old-form" ∷ codes "broken" ∷ []

-- the same as they are printed
unfoldable pub reason_texts : List (List ℕ)
reason_texts =
    codes "rule:dbus" ∷ codes "rule:io_uring" ∷ codes "rule:ptrace" ∷ codes "rule:signal" ∷ codes "rule:mount" ∷ codes "rule:umount"
    ∷ codes "rule:remount" ∷ codes "rule:pivot_root" ∷ codes "rule:set" ∷ codes "rule:mqueue" ∷ codes "rule:userns"
    ∷ codes "rule:change_hat" ∷ codes "rule:change_profile" ∷ codes "rule:stack" ∷ codes "rule:unix" ∷ codes "no-profile"
    ∷ codes "namespace" ∷ codes "stacked" ∷ codes "no-new-privs" ∷ codes "path" ∷ codes "mask" ∷ codes "name" ∷ codes "capability"
    ∷ codes "socket" ∷ codes "operation" ∷ codes "status" ∷ codes "old-form" ∷ codes "broken" ∷ []

-- the place in the order in which reasons are printed, and the name, of the reason of that number
abbrev pub reason_at : ℕ → ℕ × List ℕ
reason_at n = (n - 14, entry reason_names n)

-- the reason that is printed so
abbrev pub reason_named : List ℕ → Option (ℕ × List ℕ)
reason_named text = option_map reason_at (number_in reason_texts text)
