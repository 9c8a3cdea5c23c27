use Rattle.std.proofs.lemmas.Result.{on_ok_weaker}
use Rattle.aa_check.proofs.Pieces.{region_pieces}
use Rattle.aa_check.proofs.sarif.RegionToJson.push_json.Goals as goal

pub returns : goal.returns
returns c =
    on_ok_weaker c.push_text-2.result (region_pieces c.args.out.now.items c.push_text.new.out.items c.push_start_line.new.out.items c.push_member.new.out.items c.push_text-2.new.out.items c.args.self.now.line c.args.self.now.column
    c.in_ok-push_text.ensures c.in_ok-push_start_line.ensures c.in_ok-push_member.ensures) c.push_text-2.ensures
