use Rattle.std.proofs.Common.{List, map, ap, ◌∙◌}
use Rattle.aa_regions.specs.declared.regions.Region.{Region}
use Rattle.aa_redundancy.specs.Plain.{change_row}
use Rattle.aa_redundancy.specs.Covering.{Within, IsWithin}
use Rattle.aa_redundancy.specs.Tables.{Equal}
use Rattle.aa_redundancy.proofs.Tabled.{SameRights, equal_rights, within_rights, changes_decide}
use Rattle.aa_redundancy.proofs.names.table_of_changes.Goals as goal

pub returns-clause-alike : goal.returns-clause-alike
returns-clause-alike c =
    changes_decide c.args.rules.now (record { marks = c.in_ok-marks.marks; rows = c.in_ok-rows.rows }) c.in_ok-regions.regions.items c.in_ok-regions.ensures.regions c.in_ok-marks.ensures
    (c.in_ok-rows.ensures ∙ ap (λ (rs : List Region). map (λ (r : Region). change_row c.args.rules.now r.witness) rs) c.as_slice.ensures.value) Equal SameRights equal_rights

pub returns-clause-within : goal.returns-clause-within
returns-clause-within c =
    changes_decide c.args.rules.now (record { marks = c.in_ok-marks.marks; rows = c.in_ok-rows.rows }) c.in_ok-regions.regions.items c.in_ok-regions.ensures.regions c.in_ok-marks.ensures
    (c.in_ok-rows.ensures ∙ ap (λ (rs : List Region). map (λ (r : Region). change_row c.args.rules.now r.witness) rs) c.as_slice.ensures.value) Within IsWithin within_rights
