use Rattle.std.proofs.Common.{◌≡◌, take}
use Rattle.std.specs.List.{flat_map}
use Rattle.aa_findings.specs.Places.{given_at}
use Rattle.aa_findings.specs.Gathered.{shown_at}
use Rattle.aa_findings.proofs.gathering.shown_among.Given as goal

abbrev pub invariant-loop-place : goal.invariant-loop-place
invariant-loop-place l = l.paths.items ≡ flat_map (given_at (shown_at l.kind l.rule) l.rows) (take l.place-index l.applied)
