use Rattle.std.proofs.Common.{ap, ◌∙◌}
use Rattle.std.specs.Prelude.{slice_set}
use Rattle.aa_diff.specs.declared.finding.Finding.{Finding}
use Rattle.aa_diff.specs.Gathered.{counted_up}
use Rattle.aa_diff.proofs.Lists.{changed_set}
use Rattle.aa_diff.proofs.gathering.raise.Goals as goal

pub returns : goal.returns
returns c =
    ap (λ (x : Finding). slice_set c.args.findings.now.items c.args.number x) (c.count_up.ensures ∙ ap (counted_up c.args.finding) c.index_mut.ensures.value)
    ∙ changed_set (counted_up c.args.finding) c.args.findings.now.items c.args.number c.index_mut.result.now c.requires
