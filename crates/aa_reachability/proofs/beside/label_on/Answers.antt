use Rattle.std.proofs.Common.{sym, ◌∙◌}
use Rattle.aa_reachability.proofs.Besides.{stays_out, stays_on, decided_same}
use Rattle.aa_reachability.proofs.beside.label_on.Goals as goal

pub returns-then-is_left_out : goal.returns-then-is_left_out
returns-then-is_left_out c =
    sym (stays_out c.args.course c.args.label c.args.request.now
    (sym c.is_left_out.ensures ∙ c.if-is_left_out.true))

pub returns-then-branch : goal.returns-then-branch
returns-then-branch c =
    sym (stays_on c.args.course c.args.label c.args.request.now
    (sym c.in_ok-is_doubted_there.ensures ∙ c.if-branch.true))

pub returns-else-branch : goal.returns-else-branch
returns-else-branch c =
    c.label_at.ensures
    ∙ sym (decided_same c.args.course c.args.label c.args.request.now
    (sym c.is_left_out.ensures ∙ c.if-is_left_out.false)
    (sym c.in_ok-is_doubted_there.ensures ∙ c.if-branch.false))
