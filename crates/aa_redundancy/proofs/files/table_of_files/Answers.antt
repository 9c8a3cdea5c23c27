use Rattle.std.proofs.Common.{List, map, ap, ◌∙◌}
use Rattle.aa_regions.specs.declared.regions.Region.{Region}
use Rattle.aa_redundancy.proofs.Tabled.{files_decide, files_within}
use Rattle.aa_redundancy.proofs.files.table_of_files.Goals as goal

pub returns-clause-alike : goal.returns-clause-alike
returns-clause-alike c =
    files_decide c.args.rules.now (record { marks = c.in_ok-marks.marks; rows = c.in_ok-rows.rows }) c.in_ok-regions.regions.items c.in_ok-regions.ensures.regions c.in_ok-marks.ensures
    (c.in_ok-rows.ensures ∙ ap (λ (rs : List Region). map (λ (r : Region). r.numbers) rs) c.as_slice.ensures.value)

pub returns-clause-within : goal.returns-clause-within
returns-clause-within c =
    files_within c.args.rules.now (record { marks = c.in_ok-marks.marks; rows = c.in_ok-rows.rows }) c.in_ok-regions.regions.items c.in_ok-regions.ensures.regions c.in_ok-marks.ensures
    (c.in_ok-rows.ensures ∙ ap (λ (rs : List Region). map (λ (r : Region). r.numbers) rs) c.as_slice.ensures.value)
