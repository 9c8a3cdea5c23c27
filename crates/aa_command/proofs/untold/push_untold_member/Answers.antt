use Rattle.std.proofs.Common.{◌++◌, ℕ, List, sym, ap, ◌∙◌, codes}
use Rattle.aa_text.specs.Jsons.{member_text, list_text}
use Rattle.aa_text.proofs.Commas.{map_map}
use Rattle.aa_command.specs.Untold.{untelling, json_untold}
use Rattle.aa_command.proofs.untold.push_untold_member.Goals as goal

pub returns : goal.returns
returns c =
    c.in_ok-push_list_member.ensures
    ∙ ap (λ (l : List (List ℕ)). c.args.out.now.items ++ member_text (codes "untold") (list_text l))
    (sym (map_map json_untold untelling c.args.untold.now))
