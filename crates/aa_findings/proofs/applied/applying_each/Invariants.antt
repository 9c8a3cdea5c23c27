use Rattle.std.proofs.Common.{◌≡◌, take, map}
use Rattle.aa_findings.specs.Files.{applies_at}
use Rattle.aa_findings.specs.Places.{places, lists}
use Rattle.aa_findings.proofs.applied.applying_each.Given as goal

abbrev pub invariant-loop-row : goal.invariant-loop-row
invariant-loop-row l = lists l.all.items ≡ map (λ row. places (λ r. applies_at r row) l.profile.files) (take l.row-index l.rows)
