use Rattle.std.proofs.Common.{refl}
use Rattle.aa_findings.specs.Gathered.{of_file, files_before}
use Rattle.aa_findings.proofs.Loops.{one_more}
use Rattle.aa_findings.proofs.gathering.push_files.Goals as goal

pub loop-number-preserved : goal.loop-number-preserved
loop-number-preserved c =
    let rows = c.args.rows.now in
    let rules = c.args.rules.now in
    record {
      found = one_more (of_file c.args.complain rows rules) (files_before c.args.complain rows rules) rules c.loop-number.number c.index-rules-number.result c.args.found.now.items c.loop-number.found.items
          c.push_keyed.new.found.items c.loop-number-test.true c.index-rules-number.is refl c.loop-number.invariant.found c.in_ok-push_keyed.ensures.found;
      firsts = c.in_ok-push_keyed.ensures.firsts;
    }
