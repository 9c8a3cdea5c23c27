use Rattle.std.proofs.Common.{List, length, ◌-◌, refl, ◌∙◌, sym, ap}
use Rattle.aa_pattern.specs.declared.pattern.Pattern.{Pattern}
use Rattle.aa_model.specs.declared.policy.Profile.{Profile}
use Rattle.aa_policy.proofs.Keeping.{name_kept, profile_kept, past_before, past_alone, past_beside, same_fit, same_named}
use Rattle.aa_policy.proofs.limits.push_profile.Goals.{then-kept-via-then-kept, then-kept-via-else-kept+then-over, then-kept-via-else-kept+else-over+then-not-fits_beside}
use Rattle.aa_policy.proofs.limits.push_profile.Goals as goal
use Rattle.aa_policy.proofs.Refusals.{true_false}

pub returns-then-kept : goal.returns-then-kept
returns-then-kept c = λ spelled p k r.
    let out = c.without_patterns in
    name_kept spelled p c.args.kept.now _ out.result k c.in_ok-push.ensures.items refl (same_named p c.args.read.profile out.result r.named out.ensures.named) out.ensures.none
    (elim c.then-kept.branch [
      | then-kept-via-then-kept w ↦ past_before spelled p c.args.kept.now k w.if-kept.true
      | then-kept-via-else-kept+then-over w ↦ past_alone spelled p c.args.read r w.if-over.true
      | then-kept-via-else-kept+else-over+then-not-fits_beside w ↦
          past_beside spelled p (λ f. true_false (sym ((same_fit spelled p c.args.kept.now c.args.read w.fits_beside.result k r w.if-kept.false w.if-over.false w.fits_beside.ensures).1 f) ∙ w.if-not-fits_beside.true))
    ])

pub returns : goal.returns
returns c = λ spelled p k r.
    profile_kept spelled p c.args.kept.now _ c.args.read k r c.if-kept.false c.if-over.false
    ((same_fit spelled p c.args.kept.now c.args.read c.fits_beside.result k r c.if-kept.false c.if-over.false c.fits_beside.ensures).0 c.if-not-fits_beside.false) c.in_ok-push-2.ensures.items
    (c.saturating_sub-kept.ensures ∙ ap (λ (xs : List Pattern). c.args.kept.now.room - length xs) (c.as_slice-more.ensures ∙ ap (λ (q : Profile). q.attachments) (r.whole c.if-over.false))) refl
