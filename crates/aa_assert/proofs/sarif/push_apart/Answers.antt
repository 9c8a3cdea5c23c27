use Rattle.std.proofs.Common.{◌≡◌, ℕ, List, ap, map, ◌∙◌, ◌++◌, append_assoc, codes, Some}
use Rattle.std.proofs.lemmas.Result.{on_ok_weaker}
use Rattle.aa_text.specs.Jsons.{member_text, list_text}
use Rattle.aa_check.specs.declared.sarif.Level.TheVariants.{Warning}
use Rattle.aa_check.specs.Sarif.{rule_members, message_text, location_text}
use Rattle.aa_assert.specs.Findings.{found}
use Rattle.aa_assert.specs.Kinds.{kind_name}
use Rattle.aa_assert.specs.Gcc.{line_place, apart_note, deciders_of}
use Rattle.aa_assert.specs.Sarif.{rule_text, result_members}
use Rattle.aa_assert.proofs.sarif.push_apart.Goals as goal

pub returns : goal.returns
unfolding result_members
returns c =
    let out = c.args.out.now.items in
    let f = found c.args.finding.now in
    let rules = map rule_text (deciders_of f) in
    let members : List ℕ → List ℕ = λ m. rule_members Warning (kind_name c.args.kind) ++ member_text (codes "message") (message_text m)
    ++ member_text (codes "locations") (location_text c.args.path.now (Some (line_place c.args.number))) in
    let places : List ℕ = member_text (codes "relatedLocations") (list_text rules) in
    let note : c.as_slice-bytes.result.now ≡ apart_note f =
    c.as_slice-bytes.ensures.value ∙ c.in_ok-push_apart_note.ensures ∙ ap (λ x. x ++ apart_note f) c.new-text.ensures.items in
    let told : c.push_told.new.out.items ≡ out ++ members (apart_note f) = c.in_ok-push_told.ensures ∙ ap (λ m. out ++ members m) note in
    let joined : (out ++ members (apart_note f)) ++ (places ++ codes "}")
    ≡ out ++ result_members Warning c.args.kind (apart_note f) c.args.path.now c.args.number rules = simp append_assoc in
    on_ok_weaker c.push_places.result (λ e. e ∙ ap (λ x. x ++ (places ++ codes "}")) told ∙ joined) c.push_places.ensures
