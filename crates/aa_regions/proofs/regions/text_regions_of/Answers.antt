use Rattle.std.proofs.Common.{◌≤◌, ◌+◌, arith}
use Rattle.aa_auto.specs.Tables.{rows_of}
use Rattle.aa_regions.proofs.Collecting.{text_regions}
use Rattle.aa_regions.proofs.Paths.{ok_both}
use Rattle.aa_regions.proofs.regions.text_regions_of.Goals as goal

pub returns : goal.returns
returns c =
    let t = c.args.automaton.now in
    let room : 0 + rows_of t ≤ c.rows.result = omega (arith, c.rows.ensures) in
    ok_both c.regions_by.result c.regions_by.ensures.regions c.regions_by.ensures.short (λ rs by short ps a. text_regions ps t c.rows.result rs.items a by (short room))
