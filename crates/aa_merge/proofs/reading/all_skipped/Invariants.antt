use Rattle.std.proofs.Common.{◌≡◌, map, drop}
use Rattle.aa_merge.specs.Steps.{each}
use Rattle.json.specs.Value.{value_view}
use Rattle.aa_merge.specs.Reading.{passed_in}
use Rattle.aa_merge.specs.Held.{passed_data}
use Rattle.aa_merge.proofs.Turns.{with_front}
use Rattle.aa_merge.proofs.reading.all_skipped.Given as goal

abbrev pub invariant-loop-value : goal.invariant-loop-value
invariant-loop-value l = with_front (map passed_data l.found.items) (each passed_in (map value_view (drop l.value-index l.list))) ≡ each passed_in
    (map value_view l.list)
