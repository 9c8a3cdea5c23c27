use Rattle.std.proofs.Common.{◌+◌, List, take, drop, ap, ◌∙◌}
use Rattle.aa_differences.specs.declared.at_labels.Difference.{Difference}
use Rattle.aa_diff.specs.Gathered.{gathered, gathered_next}
use Rattle.aa_diff.proofs.Steps.{gathered_step, own_itself}
use Rattle.aa_diff.proofs.gathering.gather.Goals as goal

pub loop-number-preserved : goal.loop-number-preserved
loop-number-preserved c =
    let d = c.args.old in
    let e = c.args.new in
    let xs = c.args.differences.now in
    let n = c.loop-number.number in
    let x = c.index-differences-number.result in
    let fs = c.loop-number.findings.items in
    record {
      goes = ap (gathered d e (take (n + 1) xs) (drop (n + 1) xs)) (c.in_ok-add_next.ensures ∙ ap (λ (before : List Difference). gathered_next d e before x fs) c.split_at.ensures.front)
          ∙ gathered_step d e xs n x fs c.loop-number-test.true c.index-differences-number.is ∙ c.loop-number.invariant.goes;
      own = own_itself d.policies.now e.policies.now x.from x.to c.in_ok-own-2.own c.in_ok-own-2.ensures;
    }
