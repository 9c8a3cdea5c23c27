use Rattle.std.proofs.Common.{◌≡◌, map, drop}
use Rattle.serde_json.specs.View.{view}
use Rattle.aa_question.specs.Memory.{row_of}
use Rattle.aa_question.specs.Values.{all_of, row_in}
use Rattle.aa_question.proofs.Lists.{with_front}
use Rattle.aa_question.proofs.values.all_rows.Given as goal

abbrev pub invariant-loop-value : goal.invariant-loop-value
invariant-loop-value l = with_front (map row_of l.all.items) (all_of row_in (map view (drop l.value-index l.values))) ≡ all_of row_in (map view l.values)
