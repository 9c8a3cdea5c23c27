use Rattle.std.proofs.Common.{◌++◌, List, map, ap, ◌∙◌, Bor}
use Rattle.std.specs.Prelude.{ℕ}
use Rattle.aa_text.specs.Jsons.{list_text}
use Rattle.aa_text.proofs.Commas.{all_stand}
use Rattle.aa_log.specs.declared.logging.Entry.{Entry}
use Rattle.aa_log.specs.Listed.{json_entry}
use Rattle.aa_log.proofs.listed.push_entry_objects.Goals as goal

pub returns : goal.returns
returns c =
    let logs : List (List ℕ) = map (λ (log : Bor (List ℕ)). log.now) c.args.logs.now in
    c.in_ok-push_list_in.ensures
    ∙ ap (λ (l : List (List ℕ)). c.args.out.now.items ++ list_text l) (all_stand (json_entry logs) (λ (x : Bor Entry). x.now) c.args.entries.now)
