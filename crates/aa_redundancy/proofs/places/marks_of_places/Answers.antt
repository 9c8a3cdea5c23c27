use Rattle.std.proofs.Common.{◌∙◌, List, Bool, false, length, sym, ap, subst}
use Rattle.std.specs.Prelude.{◌||◌, ◌<◌}
use Rattle.std.proofs.lemmas.List.{length-replicate, get_or-replicate}
use Rattle.aa_redundancy.specs.Without.{marked}
use Rattle.aa_redundancy.specs.Reasons.{is_one_of}
use Rattle.aa_redundancy.proofs.places.marks_of_places.Goals as goal

pub returns-clause-many : goal.returns-clause-many
returns-clause-many c = c.mark_all.ensures.many ∙ ap length c.in_ok-flags.ensures ∙ length-replicate c.args.count false

pub returns-clause-marks : goal.returns-clause-marks
returns-clause-marks c = λ n lt.
    let wide = ap length c.in_ok-flags.ensures ∙ length-replicate c.args.count false in
    let none = ap (λ (fs : List Bool). marked fs n) c.in_ok-flags.ensures ∙ get_or-replicate c.args.count n false false lt in
    c.mark_all.ensures.marks n (subst (λ k. n < k) (sym wide) lt) ∙ ap (λ (b : Bool). b || is_one_of c.args.places.now n) none
