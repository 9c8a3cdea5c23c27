use Rattle.std.proofs.Common.{◌≡◌, map, drop}
use Rattle.aa_merge.specs.Steps.{each}
use Rattle.json.specs.Value.{value_view}
use Rattle.aa_merge.specs.Reading.{row_in}
use Rattle.aa_merge.specs.Held.{row_data}
use Rattle.aa_merge.proofs.Turns.{with_front}
use Rattle.aa_merge.proofs.reading.rows.Given as goal

abbrev pub invariant-loop-value : goal.invariant-loop-value
invariant-loop-value l = with_front (map row_data l.rows.items) (each row_in (map value_view (drop l.value-index l.list))) ≡ each row_in
    (map value_view l.list)
