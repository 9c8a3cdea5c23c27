use Rattle.std.proofs.Common.{◌≡◌, ◌≤◌, ◌+◌, ℕ, List, [], ◌++◌, length, map}
use Rattle.std.specs.Io.KnownBytes.{Consumes}
use Rattle.aa_logs.specs.LogLines.{LogLine, kept, numbered, ended, left_open}
use Rattle.aa_logs.proofs.lines.read_lines.Given as goal

abbrev pub invariant-loop : goal.invariant-loop
invariant-loop g l =
    let remaining = g.R.Read.remaining in
    let log = g.L.Lines.log in
    let taken = g.L.Lines.has_taken in
    let keeps = g.L.Lines.keeps in
    (front : List ℕ)
    × Consumes (remaining l.fn.reader) (remaining l.reader) front
    × (length l.held.bytes.items ≤ 65537)
    × (l.held.bytes.items ≡ kept (left_open [] front))
    × (l.held.number ≡ 1 + length (ended [] front))
    × (log l.lines ≡ log l.fn.lines)
    × ((before : List LogLine) → taken l.fn.lines before → taken l.lines (before ++ numbered (log l.fn.lines) 1 (map kept (ended [] front))))
    × ((first : _) → keeps first l.fn.lines → keeps first l.lines)
