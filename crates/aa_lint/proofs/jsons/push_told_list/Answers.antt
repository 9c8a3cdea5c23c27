use Rattle.std.proofs.Common.{◌++◌, ℕ, List, sym, ap, ◌∙◌}
use Rattle.aa_text.specs.Jsons.{list_text}
use Rattle.aa_text.proofs.Commas.{map_map}
use Rattle.aa_lint.specs.Telling.{telling}
use Rattle.aa_lint.specs.Jsons.{json_finding}
use Rattle.aa_lint.proofs.jsons.push_told_list.Goals as goal

pub returns : goal.returns
returns c = c.in_ok-push_list.ensures ∙ ap (λ (l : List (List ℕ)). c.args.out.now.items ++ list_text l) (sym (map_map json_finding telling c.args.told.now))
