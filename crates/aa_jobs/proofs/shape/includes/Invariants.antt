use Rattle.std.proofs.Common.{◌≡◌, map}
use Rattle.aa_jobs.specs.Steps.{each}
use Rattle.aa_jobs.specs.Shape.{include_shape}
use Rattle.aa_jobs.specs.Trees.{entry_data}
use Rattle.aa_jobs.proofs.Rows.{with_front}
use Rattle.aa_jobs.proofs.shape.includes.Given as goal

abbrev pub invariant-loop-name : goal.invariant-loop-name
invariant-loop-name l = with_front l.includes.items (each include_shape (map entry_data l.name-iterator))
    ≡ each include_shape (map entry_data l.found.entries)
