use Rattle.std.proofs.Common.{◌≡◌, length}
use Rattle.aa_redundancy.specs.Mentions.{lists}
use Rattle.aa_redundancy.proofs.mentions.no_rows.Given as goal

abbrev pub invariant-loop-place : goal.invariant-loop-place
invariant-loop-place l = length (lists l.listed.items) ≡ l._place
