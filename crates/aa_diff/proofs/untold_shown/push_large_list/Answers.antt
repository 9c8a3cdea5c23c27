use Rattle.std.proofs.Common.{◌++◌, List, codes, sym, ap, ◌∙◌}
use Rattle.std.specs.Prelude.{ℕ}
use Rattle.aa_text.specs.Jsons.{member_text, list_text}
use Rattle.aa_text.proofs.Commas.{map_map}
use Rattle.aa_diff.specs.Untold.{large}
use Rattle.aa_diff.specs.UntoldShown.{json_large}
use Rattle.aa_diff.proofs.untold_shown.push_large_list.Goals as goal

pub returns : goal.returns
returns c =
    c.in_ok-push_list_member.ensures
    ∙ ap (λ (l : List (List ℕ)). c.args.out.now.items ++ member_text (codes "untold") (list_text l)) (sym (map_map json_large large c.args.too_large.now))
