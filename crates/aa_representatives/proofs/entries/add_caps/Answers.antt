use Rattle.std.proofs.Common.{ℕ, List, Contains, refl, sym, subst}
use Rattle.aa_base.specs.Tables.{capability_names}
use Rattle.aa_representatives.proofs.Entering.{are_found, entry_found, ok_on}
use Rattle.aa_representatives.proofs.entries.add_caps.Goals as goal

pub returns-clause-has : goal.returns-clause-has
unfolding capability_names are_found
returns-clause-has c = ok_on c.add_caps_named.result c.add_caps_named.ensures.has (λ has n lt.
    let e = entry_found capability_names refl n lt in
    has e.0 n (subst (λ (l : List (List ℕ)). Contains l e.0) (sym c.names_of_caps.ensures) e.1) e.2)
