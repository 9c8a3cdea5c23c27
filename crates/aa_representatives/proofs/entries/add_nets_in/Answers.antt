use Rattle.std.proofs.Common.{◌≡◌, ℕ, List, Contains, refl, sym, ap, ◌∙◌, subst}
use Rattle.std.proofs.lemmas.Option.{same_Some}
use Rattle.aa_base.specs.Tables.{number_in, family_names, sock_type_names}
use Rattle.aa_model.specs.declared.request.Request.TheVariants.{Net}
use Rattle.aa_representatives.proofs.Entering.{are_found, entry_found, ok_on}
use Rattle.aa_representatives.proofs.entries.add_nets_in.Goals as goal

pub returns-in-Some-clause-has : goal.returns-in-Some-clause-has
unfolding sock_type_names are_found
returns-in-Some-clause-has c = ok_on c.add_nets_named.result c.add_nets_named.ensures.has (λ has f s is lt.
    let now = c.add_nets_named.new.requests.items in
    let e = entry_found sock_type_names refl s lt in
    let same : c.in-Some.family ≡ f = same_Some c.in-Some.family f (sym c.in-Some.is ∙ c.from_name.ensures ∙ ap (number_in family_names) c.as_bytes.ensures.value ∙ is) in
    subst (λ (g : ℕ). Contains now (Net g s)) same (has e.0 s (subst (λ (l : List (List ℕ)). Contains l e.0) (sym c.names_of_types.ensures) e.1) e.2))
