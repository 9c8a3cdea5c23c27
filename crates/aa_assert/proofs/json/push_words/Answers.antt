use Rattle.std.proofs.Common.{◌++◌, List, sym, ap, ◌∙◌}
use Rattle.std.specs.Prelude.{ℕ, codes}
use Rattle.aa_text.specs.Jsons.{json_bytes, member_text, list_text}
use Rattle.aa_text.proofs.Commas.{map_map}
use Rattle.aa_assert.proofs.json.push_words.Goals as goal

pub returns : goal.returns
returns c =
    c.in_ok-push_list_member.ensures
    ∙ ap (λ (l : List (List ℕ)). c.args.out.now.items ++ member_text (codes "by") (list_text l)) (sym (map_map json_bytes (λ w. w.items) c.args.words.now))
