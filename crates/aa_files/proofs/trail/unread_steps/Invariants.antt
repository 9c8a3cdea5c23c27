use Rattle.std.proofs.Common.{ℕ, ◌+◌, ◌≡◌, ◌≤◌, length, []}
use Rattle.aa_files.specs.Unread.{Says}
use Rattle.aa_files.proofs.trail.unread_steps.Given as goal
use Rattle.std.specs.Prelude.{slice_get}

abbrev pub invariant-loop-number : goal.invariant-loop-number
invariant-loop-number l = record {
  count : length l.slots.items ≡ l.number + 1;
  each : (node : ℕ) → node ≤ l.number → Says l.unit [] node (slice_get l.slots.items node);
}
