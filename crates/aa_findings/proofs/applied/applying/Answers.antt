use Rattle.std.proofs.Common.{List, ℕ, ap, ◌∙◌}
use Rattle.std.specs.Prelude.{filter, not}
use Rattle.aa_compile.specs.Matched.{rules_matching}
use Rattle.aa_findings.specs.Applied.{is_owners}
use Rattle.aa_findings.proofs.Applying.{rules_met, all_apply, others_apply}
use Rattle.aa_findings.proofs.applied.applying.Goals as goal

pub returns-then-row : goal.returns-then-row
returns-then-row c =
    let p = c.args.profile.now in
    let row = c.args.row.now in
    let profiles = c.args.compiled.now.profiles in
    let matched = ap (rules_matching profiles c.args.number) c.as_slice.ensures in
    c.in_ok-matching.ensures ∙ matched ∙ rules_met profiles c.args.number p row.path c.requires.profile ∙ all_apply row p.files c.if-row.true

pub returns : goal.returns
returns c =
    let p = c.args.profile.now in
    let row = c.args.row.now in
    let profiles = c.args.compiled.now.profiles in
    let matched = ap (rules_matching profiles c.args.number) c.as_slice.ensures in
    let met = c.in_ok-matching.ensures ∙ matched ∙ rules_met profiles c.args.number p row.path c.requires.profile in
    c.in_ok-kept.ensures
    ∙ ap (λ (l : List ℕ). filter (λ n. not (is_owners c.as_slice-2.result.now n)) l) (c.as_slice-3.ensures.value ∙ met)
    ∙ rw c.as_slice-2.ensures (others_apply row p.files c.if-row.false)
