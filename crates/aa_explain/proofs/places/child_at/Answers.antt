use Rattle.std.proofs.Common.{refl, ap, ◌∙◌}
use Rattle.std.specs.Prelude.{flat_map}
use Rattle.aa_policy.specs.Heads.{head_data}
use Rattle.std.proofs.lemmas.Result.{err_from_is_err_and}
use Rattle.aa_policy.proofs.Refusals.{refused_by}
use Rattle.aa_policy.specs.Bodies.{if_any}
use Rattle.aa_policy.proofs.Profiles.{no_child_head, no_child_body}
use Rattle.aa_rules.specs.Reading.{rest_of}
use Rattle.aa_explain.specs.Places.{PlacedProfile, PlacesData, with_rules}
use Rattle.aa_explain.proofs.places.child_at.Goals as goal

pub returns-in_err-head-clause-refused : goal.returns-in_err-head-clause-refused
returns-in_err-head-clause-refused c = λ h. no_child_head _ c.in_err-head.ensures.refused

pub returns-in_err-next-clause-refused : goal.returns-in_err-next-clause-refused
returns-in_err-next-clause-refused c = λ h.
    let r = c.from_residual-in_err-next in
    let q = err_from_is_err_and r.result r.ensures.1 in
    no_child_body _ _ _ c.in_ok-head.ensures.found (c.in_err-next.ensures.refused (refused_by r.result _ _ q.1 q.2 h))

pub returns-clause-found : goal.returns-clause-found
returns-clause-found c =
    let body = c.in_ok-next.ensures.found in
    let child : PlacedProfile = record {
      head = head_data c.in_ok-head.head;
      place = c.in_ok-placed.placed.place;
      flags = c.in_ok-placed.placed.flags.items;
      rules = flat_map if_any body.0;
    } in (
      child,
      record {
        after = rest_of c.args.words.now c.in_ok-head.body;
        statements = body.0;
        head_stands = c.in_ok-head.ensures.found;
        head_placed = c.in_ok-placed.ensures;
        body_stands = body.1;
        rules_are = refl;
      },
      body.2 ∙ ap (λ (p : PlacesData). with_rules p (flat_map if_any body.0)) c.no_rules-places.ensures,
    )
