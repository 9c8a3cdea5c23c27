use Rattle.std.proofs.Common.{◌≡◌, map, drop}
use Rattle.std.specs.Prelude.{find}
use Rattle.aa_text.specs.Nearest.{is_near}
use Rattle.aa_text.proofs.nearest.first_near.Given as goal

abbrev pub invariant-loop-name : goal.invariant-loop-name
invariant-loop-name l = find (is_near l.word) (map (λ name. name.now) l.names) ≡ find (is_near l.word) (map (λ name. name.now) (drop l.name-index l.names))
