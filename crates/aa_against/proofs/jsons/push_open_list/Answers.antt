use Rattle.std.proofs.Common.{◌++◌, List, map, ap, ◌∙◌, Bor}
use Rattle.std.specs.Prelude.{ℕ}
use Rattle.aa_text.specs.Jsons.{list_text}
use Rattle.aa_text.proofs.Commas.{all_stand}
use Rattle.aa_against.specs.Parted.{open_data}
use Rattle.aa_against.specs.Texts.{json_open}
use Rattle.aa_against.proofs.jsons.push_open_list.Goals as goal

pub returns : goal.returns
returns c =
    let logs : List (List ℕ) = map (λ (log : Bor (List ℕ)). log.now) c.args.logs.now in
    c.in_ok-push_list_in.ensures ∙ ap (λ (l : List (List ℕ)). c.args.out.now.items ++ list_text l) (all_stand (json_open logs) open_data c.args.opens.now)
