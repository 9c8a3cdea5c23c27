use Rattle.std.proofs.Common.{◌++◌, List, sym, ap, ◌∙◌}
use Rattle.std.specs.Prelude.{ℕ}
use Rattle.aa_text.specs.Jsons.{member_text, list_text}
use Rattle.aa_text.proofs.Commas.{map_map}
use Rattle.aa_diff.specs.Untold.{untold}
use Rattle.aa_diff.specs.UntoldShown.{json_untold}
use Rattle.aa_diff.proofs.untold_shown.push_doubts_member.Goals as goal

pub returns : goal.returns
returns c = c.in_ok-push_list_member.ensures ∙ ap (λ (l : List (List ℕ)). c.args.out.now.items ++ member_text c.args.key.now (list_text l)) (sym (map_map json_untold untold c.args.doubts.now))
