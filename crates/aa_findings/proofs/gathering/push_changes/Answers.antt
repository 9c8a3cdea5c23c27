use Rattle.std.proofs.Common.{refl}
use Rattle.aa_findings.specs.Gathered.{of_change, changes_before}
use Rattle.aa_findings.proofs.Loops.{one_more}
use Rattle.aa_findings.proofs.gathering.push_changes.Goals as goal

pub loop-number-preserved : goal.loop-number-preserved
loop-number-preserved c =
    let rules = c.args.rules.now in
    one_more (of_change rules) (changes_before rules) rules c.loop-number.number c.index-rules-number.result c.args.found.now.items c.loop-number.found.items c.push_change.new.found.items
    c.loop-number-test.true c.index-rules-number.is refl c.loop-number.invariant c.in_ok-push_change.ensures
