use Rattle.std.proofs.Common.{◌∙◌, map, ap, Bor}
use Rattle.std.specs.Prelude.{option_map, option_to_list}
use Rattle.aa_log.specs.declared.logging.Entry.{Entry}
use Rattle.aa_log.proofs.Sorting.{items_more}
use Rattle.aa_log.proofs.logging.entries_at.Goals as goal

pub loop-number-preserved : goal.loop-number-preserved
loop-number-preserved c =
    c.in_ok-add_found.ensures
    ∙ items_more c.args.entries.now (map (λ (e : Bor Entry). e.now) c.loop-number.found.items)
    (option_to_list
    (option_map
    (λ (e : Bor Entry). e.now) c.entry_at.result)) c.args.numbers.now c.loop-number.number-index c.loop-number-test.true c.loop-number.invariant
    (ap option_to_list c.entry_at.ensures)
