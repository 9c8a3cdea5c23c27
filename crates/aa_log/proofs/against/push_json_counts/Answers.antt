use Rattle.std.proofs.Common.{◌++◌, false}
use Rattle.aa_logs.specs.declared.line.Then.TheVariants as was
use Rattle.aa_log.specs.Against.{json_row}
use Rattle.aa_log.proofs.Listing.{two_parts, two_later}
use Rattle.aa_log.proofs.against.push_json_counts.Goals as goal

pub returns : goal.returns
returns c =
    let k = c.args.counts.now in
    let out = c.args.out.now.items in
    let two = two_later false c.in_ok-first.first c.in_ok-second.second (json_row k was.Denied) (json_row k was.Allowed) c.in_ok-first.ensures.later c.in_ok-second.ensures.later in
    let front = two_parts false c.in_ok-first.first out c.push_json_row.new.out.items c.push_json_row-2.new.out.items (json_row k was.Denied)
    (json_row k was.Allowed) c.in_ok-first.ensures.text c.in_ok-first.ensures.later c.in_ok-second.ensures.text in
    two_parts false c.in_ok-second.second out c.push_json_row-2.new.out.items c.push_json_row-3.new.out.items (json_row k was.Denied ++ json_row k was.Allowed) (json_row k was.Granted) front two c.in_ok-push_json_row.ensures.text
