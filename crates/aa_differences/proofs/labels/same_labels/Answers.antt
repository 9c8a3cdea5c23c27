use Rattle.std.proofs.Common.{◌≡◌, ℕ, ◌<◌, ◌≤◌, subst, arith, ⊎_elim}
use Rattle.std.proofs.lemmas.Bool.{cases_lt}
use Rattle.aa_differences.specs.Same.{SameLabel}
use Rattle.aa_differences.specs.Pairs.{HasPairsAt}
use Rattle.aa_differences.proofs.Pairing.{pairs_keep, all_pairs}
use Rattle.aa_differences.proofs.labels.same_labels.Goals as goal

pub loop-policy-preserved : goal.loop-policy-preserved
loop-policy-preserved c =
    let ps = c.args.old.now in
    let qs = c.args.new.now in
    let i = c.loop-policy.policy in
    let was = c.loop-policy.labels.items in
    let now = c.add_policy.new.labels.items in
    let made = c.in_ok-add_policy.ensures in
    record {
      each = λ x d. ⊎_elim (c.loop-policy.invariant.each x) (λ (same : SameLabel ps qs x.from x.to). same) (made.adds.each x d);
      has = λ k lt.
          ⊎_elim
          (λ (below : k < i). pairs_keep ps qs k was now made.adds.kept (c.loop-policy.invariant.has k below))
          (λ (above : i ≤ k).
          let e : i ≡ k = omega (arith, lt, above) in
          subst (λ (x : ℕ). HasPairsAt ps qs x now) e made.has)
          (cases_lt k i);
    }

pub returns-clause-all : goal.returns-clause-all
returns-clause-all c = λ l m same.
    let ps = c.args.old.now in
    let qs = c.args.new.now in
    all_pairs ps qs c.loop-policy.labels.items (λ k lt. c.loop-policy.invariant.has k (omega (arith, lt, c.max-policy-end.ensures, c.loop-policy-test.false))) l m same
