use Rattle.std.proofs.Common.{◌++◌, List, ap, ◌∙◌}
use Rattle.std.specs.Prelude.{ℕ}
use Rattle.aa_text.specs.Jsons.{list_text}
use Rattle.aa_text.proofs.Commas.{all_stand}
use Rattle.aa_passed_over.specs.Apart.{apart}
use Rattle.aa_diff.specs.Jsons.{json_passed_over}
use Rattle.aa_diff.proofs.json.push_json_passed_over.Goals as goal

pub returns : goal.returns
returns c =
    c.in_ok-push_list_in.ensures ∙ ap (λ (l : List (List ℕ)). c.args.out.now.items ++ list_text l)
    (all_stand (json_passed_over c.args.policies.now) apart c.args.rules.now)
