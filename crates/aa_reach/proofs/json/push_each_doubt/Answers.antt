use Rattle.std.proofs.Common.{◌++◌, List, sym, ap, ◌∙◌}
use Rattle.std.specs.Prelude.{ℕ}
use Rattle.aa_text.specs.Jsons.{member_text, list_text}
use Rattle.aa_text.proofs.Commas.{map_map}
use Rattle.aa_reach.specs.Doubts.{doubted}
use Rattle.aa_reach.specs.Json.{json_doubt}
use Rattle.aa_reach.proofs.json.push_each_doubt.Goals as goal

pub returns : goal.returns
returns c =
    c.in_ok-push_list_member.ensures
    ∙ ap (λ (l : List (List ℕ)). c.args.out.now.items ++ member_text c.args.key.now (list_text l))
    (sym (map_map json_doubt doubted c.args.doubts.now))
