use Rattle.std.proofs.Common.{ℕ, List, [], ◌∷◌, ◌++◌, map, refl, ap, ◌∙◌}
use Rattle.std.specs.Prelude.{flat_map}
use Rattle.std.proofs.lemmas.List.{map-append}
use Rattle.aa_base.specs.declared.fault.Spot.{Spot}
use Rattle.aa_policy.specs.Heads.{head_data}
use Rattle.aa_rules.specs.Reading.{rest_of}
use Rattle.aa_policy.specs.Bodies.{ChildData, if_any}
use Rattle.aa_policy.proofs.Profiles.{no_child_head, no_child_body}
use Rattle.aa_diagnostics.specs.Named.{NamedAt, named_data}
use Rattle.aa_diagnostics.proofs.names.push_child.Goals as goal

abbrev named : Spot → List ℕ → NamedAt
named at name = record { at = at; name = name }

pub returns-in_err-head-clause-refused : goal.returns-in_err-head-clause-refused
returns-in_err-head-clause-refused c = λ h. no_child_head _ c.in_err-head.ensures.refused

pub returns-in_err-next-clause-refused : goal.returns-in_err-next-clause-refused
returns-in_err-next-clause-refused c = λ h. no_child_body _ _ _ c.in_ok-head.ensures.found c.in_err-next.ensures.refused

pub returns-clause-found : goal.returns-clause-found
returns-clause-found c =
    let head = head_data c.in_ok-head.head in
    let body = c.in_ok-next.ensures.found in
    let child : ChildData = record { head = head; rules = flat_map if_any body.0 } in
    let old = c.args.names.now.items in (
      child,
      record {
        after = rest_of c.args.words.now c.in_ok-head.body;
        statements = body.0;
        head_stands = c.in_ok-head.ensures.found;
        body_stands = body.1;
        rules_are = refl;
      },
      ap (map named_data) c.in_ok-push.ensures.items ∙ map-append named_data old _
          ∙ ap (λ (name : List ℕ). map named_data old ++ named head.title.at name ∷ []) c.in_ok-name.ensures,
    )
