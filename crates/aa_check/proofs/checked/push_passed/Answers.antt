use Rattle.std.proofs.Common.{◌≡◌, ℕ, List, [], ap, sym, ◌∙◌, ◌++◌, append_assoc, codes, length, flat_map, eqb}
use Rattle.std.proofs.lemmas.Bool.{cond-false, ne_eqb}
use Rattle.std.proofs.lemmas.Result.{on_ok_weaker}
use Rattle.aa_check.specs.Printed.{passed_text, passed_line}
use Rattle.aa_check.proofs.checked.push_passed.Goals as goal

pub returns : goal.returns
unfolding passed_line
returns c =
    let ps = c.args.passed_over.now in
    let out = c.args.out.now.items in
    let text : List ℕ = codes "  passed over" ++ flat_map passed_text ps ++ codes "\n" in
    let joined : ((out ++ codes "  passed over") ++ flat_map passed_text ps) ++ codes "\n" ≡ out ++ text = simp append_assoc in
    let some : passed_line ps ≡ text = cond-false (eqb (length ps) 0) [] text (ne_eqb (length ps) 0 c.if-passed_over-eq0.false) in
    on_ok_weaker c.push_text-2.result
    (λ e. e ∙ ap (λ x. x ++ codes "\n") (c.in_ok-push_keywords.ensures ∙ ap (λ x. x ++ flat_map passed_text ps) c.in_ok-push_text.ensures) ∙ joined ∙ ap (λ x. out ++ x) (sym some))
    c.push_text-2.ensures
