use Rattle.std.proofs.Common.{ℕ, List, [], ◌∷◌, ◌++◌, map, refl, ap, ◌∙◌, append_assoc}
use Rattle.std.specs.Prelude.{flat_map}
use Rattle.std.proofs.lemmas.Result.{err_from_is_err_and}
use Rattle.std.proofs.lemmas.List.{map-append}
use Rattle.aa_base.specs.declared.fault.Spot.{Spot}
use Rattle.aa_policy.specs.Heads.{head_data}
use Rattle.aa_policy.proofs.Refusals.{refused_by}
use Rattle.aa_rules.specs.Reading.{rest_of}
use Rattle.aa_policy.specs.Bodies.{FamilyData, rules_in, children_in}
use Rattle.aa_policy.proofs.Profiles.{no_profile_head, no_profile_body}
use Rattle.aa_diagnostics.specs.Named.{NamedAt, named_data, child_named}
use Rattle.aa_diagnostics.proofs.names.push_family.Goals as goal

abbrev named : Spot → List ℕ → NamedAt
named at name = record { at = at; name = name }

pub returns-in_err-head-clause-refused : goal.returns-in_err-head-clause-refused
returns-in_err-head-clause-refused c = λ h. no_profile_head _ c.in_err-head.ensures.refused

pub returns-in_err-next-clause-refused : goal.returns-in_err-next-clause-refused
returns-in_err-next-clause-refused c = λ h.
    let r = c.from_residual-in_err-next in
    let q = err_from_is_err_and r.result r.ensures.1 in
    no_profile_body _ _ _ c.in_ok-head.ensures.found (c.in_err-next.ensures.refused (refused_by r.result _ _ q.1 q.2 h))

pub returns-clause-found : goal.returns-clause-found
returns-clause-found c =
    let head = head_data c.in_ok-head.head in
    let body = c.in_ok-next.ensures.found in
    let profile : FamilyData = record { head = head; rules = flat_map rules_in body.0; children = flat_map children_in body.0 } in
    let old = c.args.names.now.items in
    let children = map (child_named head.title.name) profile.children in (
      profile,
      record {
        after = rest_of c.args.words.now c.in_ok-head.body;
        parts = body.0;
        head_stands = c.in_ok-head.ensures.found;
        body_stands = body.1;
        rules_are = refl;
        children_are = refl;
      },
      body.2 ∙ ap (λ (l : List NamedAt). l ++ children)
          (ap (map named_data) c.in_ok-push.ensures.items ∙ map-append named_data old _
          ∙ ap (λ (name : List ℕ). map named_data old ++ named head.title.at name ∷ []) c.in_ok-name.ensures.items)
          ∙ append_assoc (map named_data old) (named head.title.at head.title.name ∷ []) children,
    )
