use Rattle.std.proofs.Common.{◌≡◌, ◌-◌, true, false, get_or, bytes_eq, sym, ◌∙◌, arith, rules}
use Rattle.aa_jobs.proofs.Trees.{found_at}
use Rattle.aa_jobs.proofs.tree.member.Goals as goal

pub returns-then-eq : goal.returns-then-eq
returns-then-eq c =
    let l = c.back in
    let ms = c.args.members.now in
    let m = c.index-members-left.result in
    let at : m ≡ get_or ms (l.left - 1) m = search rules in
    let same : bytes_eq m.0.now c.args.key.now ≡ true = search rules in
    sym (found_at true c.args.key.now ms l.left m (omega (arith, c.back-test.true)) l.invariant.0 at same) ∙ l.invariant.1

pub back-preserved : goal.back-preserved
back-preserved c =
    let l = c.back in
    let ms = c.args.members.now in
    let m = c.index-members-left.result in
    let at : m ≡ get_or ms (l.left - 1) m = search rules in
    let other : bytes_eq m.0.now c.args.key.now ≡ false = search rules in
    (omega (arith, l.invariant.0), sym (found_at false c.args.key.now ms l.left m (omega (arith, c.back-test.true)) l.invariant.0 at other) ∙ l.invariant.1)
