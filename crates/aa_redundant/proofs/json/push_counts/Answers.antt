use Rattle.std.proofs.Common.{codes}
use Rattle.std.specs.Prelude.{decimal}
use Rattle.std.proofs.lemmas.Result.{on_ok_weaker}
use Rattle.aa_text.specs.Jsons.{member_text}
use Rattle.aa_skipped.proofs.Texts.{two}
use Rattle.aa_redundant.specs.Json.{json_counts}
use Rattle.aa_redundant.proofs.json.push_counts.Goals as goal

pub returns : goal.returns
unfolding json_counts
returns c =
    on_ok_weaker c.push_member-2.result
    (λ e. two c.args.out.now.items (member_text (codes "passed_over") (decimal c.args.passed)) (member_text (codes "skipped_files") (decimal c.args.skipped))
    c.push_member.new.out.items c.push_member-2.new.out.items c.in_ok-push_member.ensures e)
    c.push_member-2.ensures
