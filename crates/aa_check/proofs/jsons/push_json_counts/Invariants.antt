use Rattle.std.proofs.Common.{◌≡◌, ◌++◌, take, map, flat_map}
use Rattle.aa_check.specs.Counts.{told}
use Rattle.aa_check.specs.Jsons.{json_count}
use Rattle.aa_check.proofs.jsons.push_json_counts.Given as goal

abbrev pub invariant-loop-count : goal.invariant-loop-count
invariant-loop-count l = l.out.items ≡ l.initial.out.items ++ flat_map json_count (map told (take l.count-index l.counts))
