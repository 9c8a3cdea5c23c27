use Rattle.std.proofs.Common.{ℕ, ◌≡◌, List, ◌++◌, codes, ap, ◌∙◌, append_assoc}
use Rattle.std.proofs.lemmas.Result.{on_ok_weaker}
use Rattle.aa_skipped.proofs.Texts.{five}
use Rattle.aa_diff.specs.Untold.{large}
use Rattle.aa_diff.specs.UntoldShown.{at_text, excess_text, help_text, large_fault}
use Rattle.aa_diff.proofs.untold_shown.push_large_fault.Goals as goal

six : (o a b d e f g t1 t2 t3 t4 t5 t6 : List ℕ) → t1 ≡ o ++ a → t2 ≡ t1 ++ b → t3 ≡ t2 ++ d → t4 ≡ t3 ++ e → t5 ≡ t4 ++ f → t6 ≡ t5 ++ g
    → t6 ≡ o ++ (((((a ++ b) ++ d) ++ e) ++ f) ++ g)
six o a b d e f g t1 t2 t3 t4 t5 t6 e1 e2 e3 e4 e5 e6 =
    e6 ∙ (ap (λ (l : List ℕ). l ++ g) (five o a b d e f t1 t2 t3 t4 t5 e1 e2 e3 e4 e5) ∙ append_assoc o ((((a ++ b) ++ d) ++ e) ++ f) g)

pub returns : goal.returns
unfolding large_fault
returns c =
    on_ok_weaker c.push_text-4.result
    (λ e. six c.args.out.now.items (codes "error: at ") (at_text (large c.args.one.now).who) (codes " ")
    (excess_text c.args.one.now.why c.args.one.now.limit) (help_text c.args.one.now.why) (codes "\n")
    c.push_text.new.out.items c.push_at.new.out.items c.push_text-2.new.out.items c.push_excess.new.out.items c.push_text-3.new.out.items
    c.push_text-4.new.out.items c.in_ok-push_text.ensures c.in_ok-push_at.ensures c.in_ok-push_text-2.ensures c.in_ok-push_excess.ensures
    (c.in_ok-push_text-3.ensures ∙ ap (λ (l : List ℕ). c.push_excess.new.out.items ++ l) c.help_text.ensures) e)
    c.push_text-4.ensures
