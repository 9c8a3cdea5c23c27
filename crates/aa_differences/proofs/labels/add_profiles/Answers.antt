use Rattle.std.proofs.Common.{◌≡◌, ℕ, ◌<◌, ◌≤◌, subst, arith, ⊎_elim}
use Rattle.std.proofs.lemmas.Bool.{cases_lt}
use Rattle.aa_differences.specs.Pairs.{HasPairsOf}
use Rattle.aa_differences.proofs.Pairing.{more_pairs}
use Rattle.aa_differences.proofs.labels.add_profiles.Goals as goal

pub loop-number-preserved : goal.loop-number-preserved
loop-number-preserved c =
    let ps = c.args.old.now in
    let qs = c.args.new.now in
    let k = c.args.policy in
    let i = c.loop-number.number in
    let now = c.add_profile.new.labels.items in
    let made = c.in_ok-add_profile.ensures in
    record {
      adds = more_pairs ps qs c.args.labels.now.items c.loop-number.labels.items now c.loop-number.invariant.adds made.adds;
      has = λ n lt.
          ⊎_elim
          (λ (below : n < i). λ p j at same. made.adds.kept _ (c.loop-number.invariant.has n below p j at same))
          (λ (above : i ≤ n).
          let e : i ≡ n = omega (arith, lt, above) in
          subst (λ (x : ℕ). HasPairsOf ps qs k x now) e made.has)
          (cases_lt n i);
    }

pub returns-clause-has : goal.returns-clause-has
returns-clause-has c = λ n.
    let ps = c.args.old.now in
    ⊎_elim
    (λ (below : n < c.loop-number.number). c.loop-number.invariant.has n below)
    (λ (above : c.loop-number.number ≤ n). λ p j at same. absurd (let none = c.count_of-number-end.ensures n (omega (arith, above, c.loop-number-test.false)) in cc))
    (cases_lt n c.loop-number.number)
