use Rattle.std.proofs.Common.{◌++◌, map, sym, ap, ◌∙◌, arith}
use Rattle.std.proofs.lemmas.List.{append-nil}
use Rattle.aa_auto.specs.Nodes.{pointed}
use Rattle.aa_compile.specs.Attached.{attachment_by}
use Rattle.aa_findings.proofs.Grouping.{none_past}
use Rattle.aa_findings.proofs.attached.push_of.Goals as goal

pub returns-then-number-profiles-clause-patterns : goal.returns-then-number-profiles-clause-patterns
returns-then-number-profiles-clause-patterns c =
    let old = pointed c.args.pointers.now.items in
    sym (ap (λ l. old ++ l) (none_past c.args.profiles.now c.args.number (omega arith)) ∙ append-nil old)

pub returns-then-number-profiles-clause-kept : goal.returns-then-number-profiles-clause-kept
returns-then-number-profiles-clause-kept c =
    let old = c.args.kept.now.items in
    sym (ap (λ l. old ++ map (attachment_by c.args.number) l) (none_past c.args.profiles.now c.args.number (omega arith)) ∙ append-nil old)
