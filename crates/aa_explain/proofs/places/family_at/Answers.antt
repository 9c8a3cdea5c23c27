use Rattle.std.proofs.Common.{List, ◌++◌, map, refl, ap, ◌∙◌}
use Rattle.std.specs.Prelude.{flat_map}
use Rattle.aa_policy.specs.Heads.{head_data}
use Rattle.std.proofs.lemmas.Result.{err_from_is_err_and}
use Rattle.aa_policy.proofs.Refusals.{refused_by}
use Rattle.aa_policy.proofs.Profiles.{no_profile_head, no_profile_body}
use Rattle.aa_rules.specs.Reading.{rest_of}
use Rattle.aa_explain.specs.Places.{PlacedFamily, PlacesData, rules_in, children_in, with_rules, places_of, places_data}
use Rattle.aa_explain.proofs.Placing.{both_same}
use Rattle.aa_explain.proofs.places.family_at.Goals as goal

pub returns-in_err-head-clause-refused : goal.returns-in_err-head-clause-refused
returns-in_err-head-clause-refused c = λ h. no_profile_head _ c.in_err-head.ensures.refused

pub returns-in_err-next-clause-refused : goal.returns-in_err-next-clause-refused
returns-in_err-next-clause-refused c = λ h.
    let r = c.from_residual-in_err-next in
    let q = err_from_is_err_and r.result r.ensures.1 in
    no_profile_body _ _ _ c.in_ok-head.ensures.found (c.in_err-next.ensures.refused (refused_by r.result _ _ q.1 q.2 h))

pub returns-clause-found : goal.returns-clause-found
returns-clause-found c =
    let body = c.in_ok-next.ensures.found in
    let family : PlacedFamily = record {
      own = record {
        head = head_data c.in_ok-head.head;
        place = c.in_ok-placed.placed.place;
        flags = c.in_ok-placed.placed.flags.items;
        rules = flat_map rules_in body.0;
      };
      children = flat_map children_in body.0;
    } in (
      family,
      record {
        after = rest_of c.args.words.now c.in_ok-head.body;
        parts = body.0;
        head_stands = c.in_ok-head.ensures.found;
        head_placed = c.in_ok-placed.ensures;
        body_stands = body.1;
        rules_are = refl;
        children_are = refl;
      },
      both_same _ _ _ _
          (body.2 ∙ ap (λ (p : PlacesData). with_rules p (flat_map rules_in body.0)) c.no_rules.ensures)
          (body.3 ∙ ap (λ (l : List PlacesData). l ++ map places_of (flat_map children_in body.0)) (ap (map places_data) c.new.ensures.items)),
    )
