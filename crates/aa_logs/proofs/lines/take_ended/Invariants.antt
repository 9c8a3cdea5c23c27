use Rattle.std.proofs.Common.{◌≡◌, ◌≤◌, ◌+◌, ℕ, List, ◌++◌, length, map}
use Rattle.aa_logs.specs.LogLines.{LogLine, kept, numbered, ended, left_open}
use Rattle.aa_logs.proofs.lines.take_ended.Given as goal

abbrev pub invariant-lines : goal.invariant-lines
invariant-lines g l =
    let front = l.fn.held.bytes.items in
    let log = g.L.Lines.log in
    let taken = g.L.Lines.has_taken in
    let keeps = g.L.Lines.keeps in
    (done : List ℕ)
    × (l.bytes ≡ done ++ l.rest)
    × (length l.held.bytes.items ≤ 65537)
    × (l.held.bytes.items ≡ kept (left_open front done))
    × (l.held.number ≡ l.fn.held.number + length (ended front done))
    × (log l.lines ≡ log l.fn.lines)
    × ((before : List LogLine) → taken l.fn.lines before → taken l.lines (before ++ numbered (log l.fn.lines) l.fn.held.number (map kept (ended front done))))
    × ((first : _) → keeps first l.fn.lines → keeps first l.lines)

abbrev pub decreases-lines : goal.decreases-lines
decreases-lines g l = length l.rest
