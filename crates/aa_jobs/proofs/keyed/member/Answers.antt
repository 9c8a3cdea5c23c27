use Rattle.std.proofs.Common.{true, false, sym, ◌∙◌, arith}
use Rattle.aa_jobs.specs.Items.{key_name}
use Rattle.aa_jobs.proofs.Looks.{kept_at}
use Rattle.aa_jobs.proofs.keyed.member.Goals as goal

pub returns-then-is_same : goal.returns-then-is_same
returns-then-is_same c =
    let l = c.back in
    sym (kept_at true (key_name c.args.key) c.args.members.now l.left _ (omega (arith, c.back-test.true)) l.invariant.0 (sym c.if-is_same.ensures)) ∙ l.invariant.1

pub back-preserved : goal.back-preserved
back-preserved c =
    let l = c.back in (
      omega (arith, l.invariant.0),
      sym (kept_at false (key_name c.args.key) c.args.members.now l.left _ (omega (arith, c.back-test.true)) l.invariant.0 (sym c.if-is_same.ensures)) ∙ l.invariant.1,
    )
