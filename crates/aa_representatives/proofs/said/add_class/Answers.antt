use Rattle.std.proofs.Common.{List, Contains, inl, inr, ◌≡◌, sym, ap, ◌∙◌, subst, ⊎_elim}
use Rattle.std.proofs.lemmas.List.Elements.{Contains-push_cases}
use Rattle.aa_representatives.specs.declared.said.SaidClass.{SaidClass}
use Rattle.aa_representatives.proofs.said.add_class.Goals as goal

pub returns-clause-each : goal.returns-clause-each
returns-clause-each c = λ x d.
    let was = c.args.classes.now.items in
    let made : SaidClass = record { one = c.args.one; other = c.args.other; path = c.in_ok-path.path } in
    ⊎_elim inl (λ (e : made ≡ x). inr (sym (ap (λ (y : SaidClass). y.path) e) ∙ c.in_ok-path.ensures, sym (ap (λ (y : SaidClass). y.one) e), sym (ap (λ (y : SaidClass). y.other) e)))
    (Contains-push_cases was made x (subst (λ (l : List SaidClass). Contains l x) c.in_ok-push.ensures.items d))
