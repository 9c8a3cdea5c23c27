use Rattle.std.proofs.Common.{refl, sym, ap, ◌∙◌, slice_get}
use Rattle.aa_base.specs.Tables.{family_names}
use Rattle.aa_base.proofs.Entries.{found_at, all_differ}
use Rattle.aa_base.proofs.family.Family.name.Goals as goal

pub returns-clause-only : goal.returns-clause-only
unfolding family_names all_differ
returns-clause-only c =
    let at = sym (ap (λ table. slice_get table c.self.inside.number) c.names.ensures.entries) ∙ c.name_at.ensures in
    rw (← c.self.view_is) (found_at family_names c.self.inside.number _ refl at)
