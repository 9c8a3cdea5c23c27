use Rattle.std.proofs.Common.{◌++◌, List, sym, ap, ◌∙◌}
use Rattle.std.specs.Prelude.{ℕ}
use Rattle.aa_text.specs.Jsons.{member_text, list_text}
use Rattle.aa_text.proofs.Commas.{map_map}
use Rattle.aa_redundant.specs.Told.{telling}
use Rattle.aa_redundant.specs.Json.{json_rule}
use Rattle.aa_redundant.proofs.json.push_others.Goals as goal

pub returns : goal.returns
returns c =
    c.in_ok-push_list_member.ensures
    ∙ ap (λ (l : List (List ℕ)). c.args.out.now.items ++ member_text c.args.key.now (list_text l)) (sym (map_map json_rule telling c.args.rules.now))
