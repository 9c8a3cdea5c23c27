use Rattle.std.proofs.Common.{◌++◌, List, sym, ap, ◌∙◌}
use Rattle.std.specs.Prelude.{ℕ, codes}
use Rattle.aa_text.specs.Jsons.{member_text, list_text}
use Rattle.aa_text.proofs.Commas.{map_map}
use Rattle.aa_who.specs.Grants.{granted}
use Rattle.aa_who.specs.Json.{json_grant}
use Rattle.aa_who.proofs.json.push_unclean.Goals as goal

pub returns : goal.returns
returns c =
    c.in_ok-push_list_member.ensures
    ∙ ap (λ (l : List (List ℕ)). c.args.out.now.items ++ member_text (codes "unclean") (list_text l)) (sym (map_map json_grant granted c.args.grants.now))
