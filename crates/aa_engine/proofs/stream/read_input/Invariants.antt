use Rattle.std.proofs.Common.{◌≡◌, ◌≤◌, ℕ, List, length, take}
use Rattle.std.specs.Io.KnownBytes.{Consumes}
use Rattle.aa_engine.proofs.stream.read_input.Given as goal

abbrev pub invariant-loop : goal.invariant-loop
invariant-loop g l =
    let remaining = g.R.Read.remaining in
    (front : List ℕ) × Consumes (remaining l.fn.reader) (remaining l.reader) front × (l.kept.items ≡ take 16777217 front) × (length l.kept.items ≤ 16777217)
