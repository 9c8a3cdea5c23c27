use Rattle.std.proofs.Common.{List, subst}
use Rattle.std.specs.Prelude.{ℕ}
use Rattle.aa_files.specs.Texts.{texts}
use Rattle.aa_merge.specs.Command.{IsPartAt}
use Rattle.aa_merge.proofs.Merged.{none_merged, merged_more, unmerged_next, unmerged_as}
use Rattle.aa_merge.proofs.command.merge_all.Goals as goal

pub loop-path-init : goal.loop-path-init
loop-path-init g c = none_merged (g.P.Parts.parts c.args.parts.now)

pub loop-path-preserved : goal.loop-path-preserved
loop-path-preserved g c =
    let files = g.P.Parts.parts c.args.parts.now in
    let are = c.loop-path.invariant in
    let next = c.in-Ok.ensures.added are.reports are.held in
    let there : IsPartAt files c.path-item.result.items next.0 = subst (λ (p : List ℕ). IsPartAt files p next.0) c.as_slice.ensures.value next.1 in
    merged_more files c.args.paths.now c.loop-path.path-index c.path-item.result c.loop-path.merging c.in-Ok.next c.loop-path-test.true c.path-item.is are
    (next.0, there, next.2)

pub returns-in-Err-clause-not : goal.returns-in-Err-clause-not
returns-in-Err-clause-not g c =
    let files = g.P.Parts.parts c.args.parts.now in
    let are = c.loop-path.invariant in
    let first = unmerged_next files c.args.paths.now c.loop-path.path-index c.path-item.result c.loop-path.merging c.loop-path-test.true c.path-item.is are in
    unmerged_as files (texts c.args.paths.now) c.path-item.result.items c.as_slice.result.now
    (record { path = c.as_slice-in-Err.result; why = c.in-Err.why }) c.as_slice.ensures.value c.as_slice-in-Err.ensures.value first
    (c.in-Err.ensures.not are.reports are.held)
