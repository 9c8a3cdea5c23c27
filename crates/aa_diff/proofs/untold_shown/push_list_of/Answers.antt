use Rattle.std.proofs.Common.{◌++◌, List, sym, ap, ◌∙◌}
use Rattle.std.specs.Prelude.{ℕ}
use Rattle.aa_text.specs.Jsons.{list_text}
use Rattle.aa_text.proofs.Commas.{map_map}
use Rattle.aa_undecided.specs.Answers.{placed_data}
use Rattle.aa_undecided.specs.Jsons.{json_placed}
use Rattle.aa_diff.proofs.untold_shown.push_list_of.Goals as goal

pub returns : goal.returns
returns c = c.in_ok-push_list.ensures ∙ ap (λ (l : List (List ℕ)). c.args.out.now.items ++ list_text l) (sym (map_map json_placed placed_data c.args.files.now))
