use Rattle.std.proofs.Common.{◌≡◌, ℕ, List, ap, map, ◌∙◌, ◌++◌, append_assoc, codes}
use Rattle.std.proofs.lemmas.Result.{on_ok_weaker}
use Rattle.aa_text.specs.Jsons.{member_text, list_text}
use Rattle.aa_assert.specs.Findings.{found}
use Rattle.aa_assert.specs.Gcc.{deciders_of}
use Rattle.aa_assert.specs.Sarif.{rule_text}
use Rattle.aa_assert.specs.Listed.{rules_in}
use Rattle.aa_assert.proofs.sarif.push_places.Goals as goal

pub returns : goal.returns
returns c =
    let out = c.args.out.now.items in
    let rules = map rule_text (deciders_of (found c.args.finding.now)) in
    let places : List (List ℕ) → List ℕ = λ ps. member_text (codes "relatedLocations") (list_text ps) in
    let those : rules_in c.as_slice.result.now ≡ rules =
    ap rules_in c.as_slice.ensures.value ∙ c.in_ok-rules.ensures ∙ ap (map rule_text) c.deciders_of.ensures in
    let listed : c.push_list_member.new.out.items ≡ out ++ places rules =
    c.in_ok-push_list_member.ensures ∙ ap (λ ps. out ++ places ps) those in
    on_ok_weaker c.push_text.result (λ e. e ∙ ap (λ x. x ++ codes "}") listed ∙ append_assoc out (places rules) (codes "}")) c.push_text.ensures
