use Rattle.std.proofs.Common.{◌≡◌, ◌++◌, ◌∙◌, ℕ, List, append_assoc, ap, codes, map}
use Rattle.std.specs.Prelude.{decimal}
use Rattle.std.proofs.lemmas.Result.{on_ok_weaker}
use Rattle.aa_text.specs.Jsons.{key_text, list_text, member_text}
use Rattle.aa_undecided.specs.Answers.{placed_all}
use Rattle.aa_undecided.specs.Jsons.{json_placed}
use Rattle.aa_assert.specs.Answers.{answered}
use Rattle.aa_assert.specs.Json.{json_answer, json_answers}
use Rattle.aa_assert.proofs.json.push_json_answers.Goals as goal

grouped : (old claims passed skipped end : List ℕ) → (((old ++ claims) ++ passed) ++ skipped) ++ end ≡ old ++ (((claims ++ passed) ++ skipped) ++ end)
grouped old claims passed skipped end = simp append_assoc

pub returns : goal.returns
unfolding json_answers
returns c =
    let claims : List ℕ = codes "{" ++ key_text (codes "claims") ++ list_text (map json_answer (map answered c.args.answers.now)) in
    let passed : List ℕ = member_text (codes "passed_over") (decimal c.args.passed) in
    let skipped : List ℕ = member_text (codes "skipped") (list_text (map json_placed (placed_all c.args.skipped.now))) in
    on_ok_weaker c.push_text.result
    (λ e. e ∙ ap (λ (x : List ℕ). x ++ codes "}\n")
    (c.in_ok-push_files_member.ensures ∙ ap (λ (x : List ℕ). x ++ skipped) (c.in_ok-push_member.ensures ∙ ap (λ (x : List ℕ). x ++ passed) c.in_ok-push_claims.ensures))
    ∙ grouped c.args.out.now.items claims passed skipped (codes "}\n")) c.push_text.ensures
