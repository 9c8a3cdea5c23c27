use Rattle.std.proofs.Common.{◌≡◌, ◌∙◌, ap, sym, subst, length, length-append, ◌+◌, refl, Some}
use Rattle.std.specs.Prelude.{slice_get}
use Rattle.std.proofs.lemmas.Option.{slice_get_read}
use Rattle.aa_check.specs.Counts.{IsCounted, EachIsCounted}
use Rattle.aa_check.proofs.Counted.{each_more}
use Rattle.aa_check.proofs.counting.count_profiles.Goals as goal

pub loop-number-preserved : goal.loop-number-preserved
loop-number-preserved c =
    let u = c.args.unit.now in
    let policy = c.args.compiled.now in
    let profile = c.profile-item.result in
    let i = c.loop-number.number in
    let listed = c.as_slice-profile-items.ensures ∙ ap (λ p. p.profiles) c.policy.ensures in
    let there : slice_get policy.profiles i ≡ Some profile =
    ap (λ l. slice_get l i) (sym listed) ∙ slice_get_read c.as_slice-profile-items.result.now (length c.as_slice-profile-items.result.now) i profile refl c.loop-number-test.true c.profile-item.is in
    let here = c.in_ok-profile_report.ensures u c.moved-count.ensures.line in
    record {
      many = ap length c.in_ok-push.ensures.items ∙ length-append c.loop-number.reports.items _ ∙ ap (λ n. n + 1) c.loop-number.invariant.many;
      line = c.moved-count.ensures.kept;
      each = subst (λ l. EachIsCounted u policy.passed_over policy.profiles l) (sym c.in_ok-push.ensures.items)
          (each_more (IsCounted u policy.passed_over) policy.profiles c.loop-number.reports.items i profile c.in_ok-profile_report.field-0 c.loop-number.invariant.many there here c.loop-number.invariant.each);
    }
