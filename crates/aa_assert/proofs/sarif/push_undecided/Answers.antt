use Rattle.std.proofs.Common.{◌≡◌, ℕ, List, ap, map, ◌∙◌, ◌++◌, append_assoc, codes, Some}
use Rattle.std.proofs.lemmas.Result.{on_ok_weaker}
use Rattle.aa_text.specs.Jsons.{member_text, list_text}
use Rattle.aa_check.specs.declared.sarif.Level.TheVariants.{Warning}
use Rattle.aa_check.specs.Sarif.{rule_members, message_text, location_text}
use Rattle.aa_undecided.specs.Answers.{placed_all}
use Rattle.aa_assert.specs.Kinds.{kind_name}
use Rattle.aa_assert.specs.Gcc.{line_place}
use Rattle.aa_assert.specs.Sarif.{file_text, result_members}
use Rattle.aa_assert.specs.Listed.{files_in}
use Rattle.aa_assert.proofs.sarif.push_undecided.Goals as goal

pub returns : goal.returns
unfolding result_members
returns c =
    let out = c.args.out.now.items in
    let texts = map file_text (placed_all c.args.files.now) in
    let members : List ℕ → List ℕ = λ m. rule_members Warning (kind_name c.args.kind) ++ member_text (codes "message") (message_text m)
    ++ member_text (codes "locations") (location_text c.args.path.now (Some (line_place c.args.number))) in
    let places : List (List ℕ) → List ℕ = λ ps. member_text (codes "relatedLocations") (list_text ps) in
    let those : files_in c.as_slice.result.now ≡ texts = ap files_in c.as_slice.ensures.value ∙ c.in_ok-places.ensures in
    let told : c.push_told.new.out.items ≡ out ++ members (codes "undecided") =
    c.in_ok-push_told.ensures ∙ ap (λ m. out ++ members m) c.as_bytes-bytes.ensures.value in
    let listed : c.push_list_member.new.out.items ≡ (out ++ members (codes "undecided")) ++ places texts =
    c.in_ok-push_list_member.ensures ∙ ap (λ x. x ++ places (files_in c.as_slice.result.now)) told
    ∙ ap (λ ps. (out ++ members (codes "undecided")) ++ places ps) those in
    let joined : ((out ++ members (codes "undecided")) ++ places texts) ++ codes "}"
    ≡ out ++ result_members Warning c.args.kind (codes "undecided") c.args.path.now c.args.number texts = simp append_assoc in
    on_ok_weaker c.push_text.result (λ e. e ∙ ap (λ x. x ++ codes "}") listed ∙ joined) c.push_text.ensures
