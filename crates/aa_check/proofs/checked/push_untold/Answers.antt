use Rattle.std.proofs.Common.{◌≡◌, ℕ, List, [], ap, sym, ◌∙◌, ◌++◌, codes, eqb}
use Rattle.std.specs.Prelude.{decimal}
use Rattle.std.proofs.lemmas.Bool.{cond-false, ne_eqb}
use Rattle.std.proofs.lemmas.Result.{on_ok_weaker}
use Rattle.aa_skipped.proofs.Texts.{three}
use Rattle.aa_check.specs.Printed.{untold_text}
use Rattle.aa_check.proofs.checked.push_untold.Goals as goal

pub returns : goal.returns
returns c =
    let n = c.args.count in
    let out = c.args.out.now.items in
    let text : List ℕ = codes ", and any in " ++ decimal n ++ codes " of them" in
    let some : untold_text n ≡ text = cond-false (eqb n 0) [] text (ne_eqb n 0 c.if-count-eq0.false) in
    on_ok_weaker c.push_text-2.result
    (λ e. three out (codes ", and any in ") (decimal n) (codes " of them") c.push_text.new.out.items c.push_number.new.out.items c.push_text-2.new.out.items
    c.in_ok-push_text.ensures c.in_ok-push_number.ensures e ∙ ap (λ (l : List ℕ). out ++ l) (sym some))
    c.push_text-2.ensures
