use Rattle.std.proofs.Common.{◌++◌, List, ap, ◌∙◌, codes}
use Rattle.std.specs.Prelude.{ℕ}
use Rattle.std.proofs.lemmas.Result.{on_ok_weaker}
use Rattle.std.proofs.lemmas.List.{append_assoc}
use Rattle.aa_text.specs.Jsons.{member_text}
use Rattle.aa_diff.specs.declared.signs.Sign.TheVariants.{Gain, Loss}
use Rattle.aa_diff.specs.Jsons.{json_names, json_profiles}
use Rattle.aa_diff.proofs.json.push_json_profiles.Goals as goal

pub returns : goal.returns
unfolding json_profiles
returns c =
    let gone = member_text (codes "gone_profiles") (json_names Loss c.args.findings.now) in
    let new = member_text (codes "new_profiles") (json_names Gain c.args.findings.now) in
    on_ok_weaker c.push_names_member-2.result
    (λ is. is ∙ (ap (λ (before : List ℕ). before ++ new) c.in_ok-push_names_member.ensures ∙ append_assoc c.args.out.now.items gone new))
    c.push_names_member-2.ensures
