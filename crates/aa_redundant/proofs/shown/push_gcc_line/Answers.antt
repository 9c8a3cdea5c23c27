use Rattle.std.proofs.Common.{◌≡◌, ap, ◌∙◌, ◌++◌, append_assoc, codes}
use Rattle.std.proofs.lemmas.Result.{on_ok_weaker}
use Rattle.aa_text.specs.Texts.{where_text}
use Rattle.aa_redundant.specs.Told.{explaining}
use Rattle.aa_redundant.specs.Shown.{finding_text, gcc_line}
use Rattle.aa_redundant.proofs.shown.push_gcc_line.Goals as goal

pub returns : goal.returns
unfolding gcc_line
returns c =
    let out = c.args.out.now.items in
    let e = explaining c.args.rule.now in
    let place = where_text e.rule.path e.rule.place in
    let warning = codes ": warning: " in
    let end = codes " [redundant]\n" in
    let placed : c.push_where.new.out.items ≡ out ++ place =
    c.in_ok-push_where.ensures ∙ ap (λ p. out ++ where_text p e.rule.place) c.as_slice.ensures.value in
    let warned : c.push_text.new.out.items ≡ (out ++ place) ++ warning = c.in_ok-push_text.ensures ∙ ap (λ x. x ++ warning) placed in
    let told : c.push_finding.new.out.items ≡ ((out ++ place) ++ warning) ++ finding_text e =
    c.in_ok-push_finding.ensures ∙ ap (λ x. x ++ finding_text e) warned in
    let joined : (((out ++ place) ++ warning) ++ finding_text e) ++ end ≡ out ++ gcc_line e = simp append_assoc in
    on_ok_weaker c.push_text-2.result (λ h. h ∙ ap (λ x. x ++ end) told ∙ joined) c.push_text-2.ensures
