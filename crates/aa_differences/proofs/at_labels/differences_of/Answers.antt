use Rattle.std.proofs.Common.{sym, arith}
use Rattle.aa_model.specs.declared.request.Request.{Request}
use Rattle.aa_differences.specs.Differences.{IsListedAt}
use Rattle.aa_differences.proofs.Adding.{listed_keep}
use Rattle.aa_differences.proofs.at_labels.differences_of.Goals as goal
use Rattle.aa_representatives.proofs.Linking.{elements_more}

pub loop-request-preserved : goal.loop-request-preserved
loop-request-preserved c =
    let ps = c.args.old.now in
    let qs = c.args.new.now in
    let l = c.args.from in
    let m = c.args.to in
    let was = c.loop-request.differences.items in
    let now = c.add_difference.new.differences.items in
    let made = c.in_ok-add_difference.ensures in
    record {
      each = made.each c.loop-request.invariant.each;
      all = elements_more c.args.requests.now c.loop-request.request-index c.request-item.result (λ (r : Request). IsListedAt ps qs l m r was) (λ (r : Request). IsListedAt ps qs l m r now)
          c.loop-request-test.true c.request-item.is (λ r. listed_keep ps qs l m r was now made.kept) made.listed c.loop-request.invariant.all;
    }

pub add_difference-requires-clause-asked : goal.add_difference-requires-clause-asked
add_difference-requires-clause-asked c = c.requires.asked c.request-item.result (c.loop-request.request-index, c.loop-request-test.true, sym c.request-item.is)

pub returns-clause-all : goal.returns-clause-all
returns-clause-all c = λ r in'. c.loop-request.invariant.all in'.0 r (omega (arith, in'.1, c.loop-request-test.false)) in'.2
