use Rattle.std.proofs.Common.{◌≡◌, ◌++◌, drop}
use Rattle.aa_files.specs.Texts.{slices}
use Rattle.aa_redundancy.specs.Plain.{each_from}
use Rattle.aa_redundant.specs.Accepted.{stays}
use Rattle.aa_redundant.proofs.accepted.all_held.Given as goal

abbrev pub invariant-loop-number : goal.invariant-loop-number
invariant-loop-number l =
    l.flags.items ++ each_from (stays l.units (slices l.lines) l.unsure) l.number (drop l.number l.places)
    ≡ each_from (stays l.units (slices l.lines) l.unsure) 0 l.places
