use Rattle.std.proofs.Common.{ap, ◌∙◌}
use Rattle.std.specs.Prelude.{slice_set}
use Rattle.aa_diff.specs.declared.finding.Finding.{Finding}
use Rattle.aa_diff.specs.Joined.{both_of}
use Rattle.aa_diff.proofs.Lists.{changed_set}
use Rattle.aa_diff.proofs.joining.join_at.Goals as goal

pub returns : goal.returns
returns c =
    ap (λ (x : Finding). slice_set c.args.findings.now.items c.args.number x) (c.join.ensures ∙ ap (both_of c.args.finding.now) c.index_mut.ensures.value)
    ∙ changed_set (both_of c.args.finding.now) c.args.findings.now.items c.args.number c.index_mut.result.now c.requires
