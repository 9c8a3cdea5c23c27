use Rattle.std.proofs.Common.{◌≡◌, List, ℕ, take, is_some, None, if◌then◌else◌}
use Rattle.aa_load.specs.Faults.{number_of}
use Rattle.aa_load.specs.Numbers.{noted}
use Rattle.aa_load.proofs.numbers.forget_all.Given as goal

abbrev pub invariant-loop-profile : goal.invariant-loop-profile
invariant-loop-profile l = (name : List ℕ) → noted name l.numbers.entries
    ≡ (if is_some (number_of name (take l.profile-index l.profiles)) then None else noted name l.fn.numbers.entries)
