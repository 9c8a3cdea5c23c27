use Rattle.std.proofs.Common.{[], ◌∷◌, ◌++◌, map, sym, ap, ◌∙◌}
use Rattle.std.proofs.lemmas.List.{append-nil, map-append}
use Rattle.std.proofs.lemmas.Result.{err_from_is_err_and}
use Rattle.aa_policy.proofs.Refusals.{refused_by}
use Rattle.aa_policy.proofs.Profiles.{no_child_part, no_part}
use Rattle.aa_explain.specs.Places.{PlacesData, Stated, Held, places_data}
use Rattle.aa_explain.proofs.Placing.{with_none}
use Rattle.aa_explain.proofs.places.push_part.Goals as goal

pub returns-in_err-next-clause-refused : goal.returns-in_err-next-clause-refused
returns-in_err-next-clause-refused c = λ h.
    let r = c.from_residual in
    let q = err_from_is_err_and r.result r.ensures.1 in
    no_part _ c.if-not-begins_profile.ensures.no (c.in_err-next.ensures.refused (refused_by r.result _ _ q.1 q.2 h))

pub returns-in_err-child-clause-refused : goal.returns-in_err-child-clause-refused
returns-in_err-child-clause-refused c = λ h.
    let r = c.from_residual-in_err-child in
    let q = err_from_is_err_and r.result r.ensures.1 in
    no_child_part _ c.if-not-begins_profile.ensures.yes (c.in_err-child.ensures.refused (refused_by r.result _ _ q.1 q.2 h))

pub returns-then-not-begins_profile-clause-found : goal.returns-then-not-begins_profile-clause-found
returns-then-not-begins_profile-clause-found c =
    let statement = c.in_ok-next.ensures.found in
    (Stated statement.0, statement.1, statement.2, sym (append-nil _))

pub returns-clause-found : goal.returns-clause-found
returns-clause-found c =
    let child = c.in_ok-child.ensures.found in
    let before = c.args.family.now.children.items in (
      Held child.0,
      child.1,
      with_none _,
      ap (map places_data) c.in_ok-push.ensures.items ∙ map-append places_data before (c.in_ok-child.child ∷ [])
          ∙ ap (λ (p : PlacesData). map places_data before ++ p ∷ []) child.2,
    )
