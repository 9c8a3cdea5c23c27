use Rattle.std.proofs.Common.{◌++◌, List, map, ap, ◌∙◌, Bor}
use Rattle.std.specs.Prelude.{ℕ}
use Rattle.aa_text.specs.Jsons.{list_text}
use Rattle.aa_text.proofs.Commas.{each_stands}
use Rattle.aa_log.specs.Listed.{json_skipped}
use Rattle.aa_log.proofs.listed.push_each_listed.Goals as goal

pub returns : goal.returns
returns c =
    let logs : List (List ℕ) = map (λ (log : Bor (List ℕ)). log.now) c.args.logs.now in
    c.in_ok-push_list_in.ensures
    ∙ ap (λ (l : List (List ℕ)). c.args.out.now.items ++ list_text l) (each_stands (json_skipped logs) c.args.each.now)
