use Rattle.std.proofs.Common.{refl}
use Rattle.std.proofs.lemmas.List.{get_or_default}
use Rattle.aa_findings.specs.Gathered.{of_cap, caps_before}
use Rattle.aa_findings.proofs.Loops.{one_more}
use Rattle.aa_findings.proofs.gathering.push_caps.Goals as goal

pub loop-number-preserved : goal.loop-number-preserved
loop-number-preserved c =
    let rules = c.args.rules.now in
    let lt = c.loop-number-test.true in
    one_more (of_cap c.args.complain rules) (caps_before c.args.complain rules) rules c.loop-number.number _ c.args.found.now.items c.loop-number.found.items c.push_cap.new.found.items
    lt (get_or_default rules c.loop-number.number _ _ lt) refl c.loop-number.invariant c.in_ok-push_cap.ensures
