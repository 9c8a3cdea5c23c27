use Rattle.std.proofs.Common.{List, [], ◌∷◌, ◌++◌, map, sym, ap, subst, ◌∙◌}
use Rattle.aa_model.specs.declared.policy.Policy.{Policy}
use Rattle.aa_load.specs.Rows.{Rows}
use Rattle.aa_explain.specs.Places.{places_data}
use Rattle.aa_load.specs.Joining.{nothing, Joins}
use Rattle.aa_load.specs.Refused.{OfAll}
use Rattle.aa_load.specs.Loadings.{reading_data}
use Rattle.aa_load.proofs.Adding.{joined_data}
use Rattle.aa_load.proofs.loaded.load_policy.Goals as goal

pub returns-in-Err-compile_all-clause-cause : goal.returns-in-Err-compile_all-clause-cause
returns-in-Err-compile_all-clause-cause c other =
    let why = (rw c.limit_of.ensures.is at c.in-Err-compile_all.ensures.cause) other in
    OfAll why.0
    (record {
      policy = c.into_policy.result;
      so_far = reading_data c.in-Ok.reading;
      joined = c.in-Ok.ensures.joined;
      rows_are = sym c.into_policy.ensures;
      refused = why.1;
    })
    why.2

pub returns-clause-ok : goal.returns-clause-ok
returns-clause-ok c = record {
  policy = c.into_policy.result;
  joined = subst (λ (r : Rows). Joins 0 nothing c.args.all.now (joined_data r c.in-Ok.reading.owners.items (map places_data c.in-Ok.reading.places.items))) (sym c.into_policy.ensures) c.in-Ok.ensures.joined;
  accepted = rw c.limit_of.ensures.is at c.in-Ok-compile_all.ensures.accepted;
  policies_are = c.in_ok-push.ensures.items ∙ ap (λ (l : List Policy). l ++ c.in-Ok-compile_all.compiled ∷ []) c.new-policies.ensures.items ∙ ap (λ (p : Policy). p ∷ []) c.in-Ok-compile_all.ensures.ok;
}
