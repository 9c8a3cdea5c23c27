use Rattle.std.proofs.Common.{ap, ◌∙◌, ◌+◌, ℕ, length, arith}
use Rattle.std.proofs.lemmas.List.{length_push}
use Rattle.aa_redundancy.proofs.Singles.{mark_more}
use Rattle.aa_redundancy.proofs.kept.marks_of.Goals as goal

pub loop-number-preserved : goal.loop-number-preserved
loop-number-preserved c =
    let was = c.loop-number.marks.items in
    let m = c.plain_mark.result in
    let e = c.in_ok-push.ensures.items in record {
      many = ap length e ∙ length_push was m ∙ ap (λ (k : ℕ). k + 1) c.loop-number.invariant.many;
      marks = mark_more c.loop-number.number was c.push.new.self.items m e c.plain_mark.ensures c.loop-number.invariant.many c.loop-number.invariant.marks;
    }

pub returns-clause-marks : goal.returns-clause-marks
returns-clause-marks c = λ n lt. c.loop-number.invariant.marks n (omega (arith, lt, c.loop-number-test.false))
