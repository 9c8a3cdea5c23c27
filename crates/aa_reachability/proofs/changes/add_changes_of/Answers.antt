use Rattle.std.proofs.Common.{◌≡◌, ◌<◌, ℕ, List, length, get_or, sym, arith}
use Rattle.aa_model.specs.declared.rule.ChangeRule.{ChangeRule}
use Rattle.aa_model.specs.declared.request.Request.{Request}
use Rattle.aa_representatives.specs.Representatives.{Adds}
use Rattle.aa_representatives.proofs.Adding.{adds_both, adds_keep}
use Rattle.aa_representatives.proofs.Linking.{elements_more}
use Rattle.aa_reachability.specs.Single.{IsChangeOf, IsChangeOfOne, HasChangesOfRule}
use Rattle.aa_reachability.proofs.Elements.{of_each}
use Rattle.aa_reachability.proofs.Single.{adds_weaker}
use Rattle.aa_reachability.proofs.changes.add_changes_of.Goals as goal

-- those of one rule are of one of the rules
among : (rules : List ChangeRule) (i : ℕ) (r : ChangeRule) → i < length rules → r ≡ get_or rules i r → (before after : List Request)
    → Adds (IsChangeOf r) before after → Adds (IsChangeOfOne rules) before after
among rules i r lt is before after adds =
    adds_weaker (IsChangeOf r) (IsChangeOfOne rules) before after (λ q of. (r, (i, lt, sym is), of)) adds

pub returns-then-not-is_one-clause-adds : goal.returns-then-not-is_one-clause-adds
returns-then-not-is_one-clause-adds c =
    let rules = c.args.rules.now in
    let was = c.loop-rule.requests.items in
    let now = c.add_change_of.new.requests.items in
    adds_both (IsChangeOfOne rules) c.args.requests.now.items was now c.loop-rule.invariant.adds
    (among rules c.loop-rule.rule-index c.rule-item.result c.loop-rule-test.true c.rule-item.is was now c.in_ok-is_one.ensures.adds)

pub loop-rule-preserved : goal.loop-rule-preserved
loop-rule-preserved c =
    let rules = c.args.rules.now in
    let was = c.loop-rule.requests.items in
    let now = c.add_change_of.new.requests.items in
    let made = c.in_ok-is_one.ensures in
    let more = among rules c.loop-rule.rule-index c.rule-item.result c.loop-rule-test.true c.rule-item.is was now made.adds in
    record {
      adds = adds_both (IsChangeOfOne rules) c.args.requests.now.items was now c.loop-rule.invariant.adds more;
      has = elements_more rules c.loop-rule.rule-index c.rule-item.result (HasChangesOfRule was) (HasChangesOfRule now)
          c.loop-rule-test.true c.rule-item.is (λ r has allows s holds wanted. adds_keep (IsChangeOfOne rules) was now more _ (has allows s holds wanted))
          (made.has c.if-not-is_one.false) c.loop-rule.invariant.has;
    }

pub returns-clause-has : goal.returns-clause-has
returns-clause-has c = λ yes.
    of_each (HasChangesOfRule c.loop-rule.requests.items) c.args.rules.now c.loop-rule.rule-index (omega (arith, c.loop-rule-test.false))
    c.loop-rule.invariant.has
