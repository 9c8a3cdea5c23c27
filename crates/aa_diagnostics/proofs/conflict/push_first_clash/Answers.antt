use Rattle.std.proofs.Common.{◌≡◌, ◌+◌, ◌<◌, ◌≤◌, length, refl, sym, ap, ◌∙◌, subst, arith, inl, ⊎_elim}
use Rattle.std.proofs.lemmas.Bool.{cases_lt}
use Rattle.std.proofs.lemmas.Option.{slice_get_read, slice_get_within, same_Some}
use Rattle.std.specs.Prelude.{slice_get}
use Rattle.aa_model.specs.declared.policy.Profile.{Profile}
use Rattle.aa_diagnostics.specs.Conflicts.{HasNone}
use Rattle.aa_diagnostics.proofs.conflict.push_first_clash.Goals as goal

pub loop-number-preserved : goal.loop-number-preserved
loop-number-preserved c =
    let profiles = c.args.profiles.now in
    let i = c.loop-number.number in
    let r = c.index-profiles-number.result in
    let at = slice_get_read profiles (length profiles) i r refl c.loop-number-test.true c.index-profiles-number.is in
    record {
      same = c.in_ok-push_clash_if.ensures.stays c.if-branch.false ∙ c.loop-number.invariant.same;
      none = λ n p lt got e.
          ⊎_elim
          (λ (l : n < i). c.loop-number.invariant.none n p l got e)
          (λ (g : i ≤ n).
          let here : n ≡ i = omega arith in
          let is : r ≡ p = same_Some r p (sym at ∙ sym (ap (slice_get profiles) here) ∙ got) in
          subst (λ (q : Profile). HasNone q (c.args.limit + 1)) is (c.in_ok-push_clash_if.ensures.none c.if-branch.false (ap (λ (q : Profile). q.at) is ∙ e)))
          (cases_lt n i);
    }

pub returns : goal.returns
returns c = inl (c.loop-number.invariant.same, λ n p got e. c.loop-number.invariant.none n p (omega (arith, slice_get_within c.args.profiles.now n p got, c.loop-number-test.false)) got e)
