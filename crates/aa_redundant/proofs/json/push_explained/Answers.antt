use Rattle.std.proofs.Common.{◌++◌, List, sym, ap, ◌∙◌}
use Rattle.std.specs.Prelude.{ℕ}
use Rattle.aa_text.specs.Jsons.{list_text}
use Rattle.aa_text.proofs.Commas.{map_map}
use Rattle.aa_redundant.specs.Told.{explaining}
use Rattle.aa_redundant.specs.Json.{json_explained}
use Rattle.aa_redundant.proofs.json.push_explained.Goals as goal

pub returns : goal.returns
returns c = c.in_ok-push_list.ensures ∙ ap (λ (l : List (List ℕ)). c.args.out.now.items ++ list_text l) (sym (map_map json_explained explaining c.args.rules.now))
