use Rattle.std.proofs.Common.{◌++◌, List, sym, ap, ◌∙◌}
use Rattle.std.specs.Prelude.{ℕ, codes}
use Rattle.aa_text.specs.Jsons.{member_text, list_text}
use Rattle.aa_text.proofs.Commas.{map_map}
use Rattle.aa_reach.specs.Routes.{routed}
use Rattle.aa_reach.specs.Json.{json_route}
use Rattle.aa_reach.proofs.json.push_apart_routes.Goals as goal

pub returns : goal.returns
returns c =
    c.in_ok-push_list_member.ensures
    ∙ ap (λ (l : List (List ℕ)). c.args.out.now.items ++ member_text (codes "unclean") (list_text l)) (sym (map_map json_route routed c.args.routes.now))
