use Rattle.std.proofs.Common.{ℕ, List, Contains, refl, sym, subst}
use Rattle.aa_base.specs.Tables.{family_names}
use Rattle.aa_representatives.proofs.Entering.{are_found, entry_found, ok_on}
use Rattle.aa_representatives.proofs.entries.add_nets.Goals as goal

pub returns-clause-has : goal.returns-clause-has
unfolding family_names are_found
returns-clause-has c = ok_on c.add_nets_in_named.result c.add_nets_in_named.ensures.has (λ has f s lt more.
    let e = entry_found family_names refl f lt in
    has e.0 f s (subst (λ (l : List (List ℕ)). Contains l e.0) (sym c.names_of_families.ensures) e.1) e.2 more)
