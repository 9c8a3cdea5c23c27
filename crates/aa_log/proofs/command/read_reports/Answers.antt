use Rattle.std.proofs.Common.{ℕ, List, [], get_or, is_some, Bor, refl, subst, arith}
use Rattle.aa_log.proofs.Lines.{AddsLog, found_none, found_more, found_all, unread_behind}
use Rattle.aa_log.proofs.command.read_reports.Goals as goal

pub loop-path-init : goal.loop-path-init
loop-path-init g c = record { number = refl; found = found_none (g.R.Logs.lying c.args.reader.now) c.args.said.now c.requires }

pub loop-path-preserved : goal.loop-path-preserved
loop-path-preserved g c =
    let lying = g.R.Logs.lying c.args.reader.now in
    let first = c.args.said.now in
    let paths = c.args.logs.now in
    let i = c.loop-path.path-index in
    let none : Bor (List ℕ) = record { ref_ptr = (0, 0); now = [] } in
    record {
      number = omega arith;
      found = found_more lying first.report.choice (is_some first.report.each_skipped) paths i none (get_or paths i none) c.loop-path.said c.read_report.new.said c.loop-path-test.true refl
          (subst (λ n. AddsLog lying (get_or paths i none).now n c.loop-path.said c.read_report.new.said) c.loop-path.invariant.number c.in-Ok.ensures.taken) c.in-Ok.ensures.keeps c.loop-path.invariant.found;
    }

pub returns-in-Err-clause-unread : goal.returns-in-Err-clause-unread
returns-in-Err-clause-unread g c =
    let lying = g.R.Logs.lying c.args.reader.now in
    let first = c.args.said.now in
    let paths = c.args.logs.now in
    let i = c.loop-path.path-index in
    let none : Bor (List ℕ) = record { ref_ptr = (0, 0); now = [] } in
    unread_behind lying first.report.choice (is_some first.report.each_skipped) paths i none (get_or paths i none) c.loop-path.said c.loop-path-test.true refl c.loop-path.invariant.found

pub returns-clause-found : goal.returns-clause-found
returns-clause-found g c = found_all (g.R.Logs.lying c.args.reader.now) c.args.said.now.report.choice
    (is_some c.args.said.now.report.each_skipped) c.args.logs.now c.loop-path.path-index c.loop-path.said c.loop-path-test.false c.loop-path.invariant.found
