use Rattle.std.proofs.Common.{◌∙◌, map, ap, Bor}
use Rattle.std.specs.Prelude.{option_map, option_to_list}
use Rattle.aa_log.specs.declared.logging.SkippedLines.{SkippedLines}
use Rattle.aa_log.proofs.Sorting.{items_more}
use Rattle.aa_log.proofs.logging.skipped_at.Goals as goal

pub loop-number-preserved : goal.loop-number-preserved
loop-number-preserved c =
    c.in_ok-add_skipped.ensures
    ∙ items_more c.args.skipped.now (map (λ (s : Bor SkippedLines). s.now) c.loop-number.found.items)
    (option_to_list
    (option_map
    (λ (s : Bor SkippedLines). s.now) c.reason_at.result)) c.args.numbers.now c.loop-number.number-index c.loop-number-test.true c.loop-number.invariant
    (ap option_to_list c.reason_at.ensures)
