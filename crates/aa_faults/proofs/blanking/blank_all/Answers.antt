use Rattle.std.proofs.Common.{ap, ◌∙◌, get_or, slice_set, arith}
use Rattle.std.proofs.lemmas.List.{get_or_default}
use Rattle.std.proofs.lemmas.List.Edits.{map_over_more}
use Rattle.aa_faults.specs.Blanks.{blank_byte}
use Rattle.aa_faults.proofs.blanking.blank_all.Goals as goal

pub loop-b-preserved : goal.loop-b-preserved
loop-b-preserved c =
    let text = c.loop-b.text in
    let i = c.loop-b.b-index in
    let b = get_or text i 0 in
    ap (λ y. slice_set text i y) c.blank_byte.ensures
    ∙ map_over_more blank_byte c.args.text.now text i b c.loop-b-test.true c.loop-b.invariant (get_or_default text i 0 b (omega arith))
