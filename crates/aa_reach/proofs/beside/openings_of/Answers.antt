use Rattle.std.proofs.Common.{◌≡◌, ℕ, List, Bool, ◌+◌, [], ◌∷◌, ◌++◌, sym, ap, ◌∙◌, add-one}
use Rattle.aa_reach.specs.Doubts.{is_opened, label_numbered}
use Rattle.aa_reach.proofs.Shutting.{opened_first, opened_more}
use Rattle.aa_reach.proofs.beside.openings_of.Goals as goal

pub loop-number-init : goal.loop-number-init
loop-number-init c =
    let ps = c.args.policies.now in
    let sk = c.args.skipped.now in
    let b = c.in_ok-is_opened.field-0 in
    opened_more ps sk 0 [] c.push.new.self.items b (opened_first ps sk)
    (c.in_ok-push.ensures.items ∙ ap (λ (l : List Bool). l ++ b ∷ []) c.new-openings.ensures.items) c.in_ok-is_opened.ensures

pub loop-number-preserved : goal.loop-number-preserved
loop-number-preserved c =
    let ps = c.args.policies.now in
    let sk = c.args.skipped.now in
    let n = c.loop-number.number in
    opened_more ps sk (n + 1) c.loop-number.openings.items c.push-in-loop-number.new.self.items c.in_ok-is_opened-2.field-0 c.loop-number.invariant
    c.in_ok-push-2.ensures.items
    (c.in_ok-is_opened-2.ensures ∙ ap (λ (m : ℕ). is_opened ps sk (label_numbered m)) (sym (add-one n)))
