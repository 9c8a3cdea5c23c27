use Rattle.std.proofs.Common.{◌≡◌, map, drop}
use Rattle.std.specs.Prelude.{find}
use Rattle.aa_text.specs.Nearest.{is_within_one}
use Rattle.aa_text.proofs.nearest.first_within_one.Given as goal

abbrev pub invariant-loop-name : goal.invariant-loop-name
invariant-loop-name l = find (is_within_one l.word) (map (λ name. name.now) l.names) ≡ find (is_within_one l.word) (map (λ name. name.now) (drop l.name-index l.names))
