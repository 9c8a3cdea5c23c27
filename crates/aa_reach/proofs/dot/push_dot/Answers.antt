use Rattle.std.proofs.Common.{◌++◌}
use Rattle.std.proofs.lemmas.Result.{IfOk-equal}
use Rattle.aa_reach.specs.Dot.{dot_comments, dot_text}
use Rattle.aa_reach.proofs.Drawing.{five_texts}
use Rattle.aa_reach.proofs.dot.push_dot.Goals as goal

pub returns : goal.returns
unfolding dot_text
returns c =
    IfOk-equal c.push_comments.result c.push_comments.new.out.items (c.push_text-2.new.out.items ++ dot_comments c.args.passed c.args.skipped)
    (c.args.out.now.items ++ dot_text c.args.passed c.args.skipped c.args.vertices.now) c.push_comments.ensures
    (five_texts c.args.out.now.items _ _ _ _ (dot_comments c.args.passed c.args.skipped)
    c.push_text.new.out.items c.push_nodes.new.out.items c.push_all_edges.new.out.items c.push_text-2.new.out.items
    c.in_ok-push_text.ensures c.in_ok-push_nodes.ensures c.in_ok-push_all_edges.ensures c.in_ok-push_text-2.ensures)
