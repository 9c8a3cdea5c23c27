use Rattle.std.proofs.Common.{◌∙◌, ℕ, List, refl, sym, ap}
use Rattle.std.specs.Prelude.{◌||◌}
use Rattle.std.proofs.Math.Bool.{or-false}
use Rattle.std.proofs.lemmas.List.{take_all}
use Rattle.aa_redundancy.specs.Without.{marked}
use Rattle.aa_redundancy.specs.Reasons.{is_one_of}
use Rattle.aa_redundancy.proofs.Keeping.{marks_more}
use Rattle.aa_redundancy.proofs.reasons.mark_all.Goals as goal

pub loop-place-init : goal.loop-place-init
loop-place-init c = record { many = refl; marks = λ n less. sym (or-false (marked c.args.flags.now.items n)) }

pub loop-place-preserved : goal.loop-place-preserved
loop-place-preserved c = record {
  many = c.mark_one.ensures.many ∙ c.loop-place.invariant.many;
  marks = marks_more c.args.flags.now.items c.loop-place.flags.items c.mark_one.new.flags.items c.args.places.now c.loop-place.place-index c.loop-place-test.true c.loop-place.invariant.many
      c.loop-place.invariant.marks c.mark_one.ensures.marks;
}

pub returns-clause-marks : goal.returns-clause-marks
returns-clause-marks c = λ n less.
    c.loop-place.invariant.marks n less
    ∙ ap (λ (l : List ℕ). marked c.args.flags.now.items n || is_one_of l n) (take_all c.loop-place.place-index c.args.places.now c.loop-place-test.false)
