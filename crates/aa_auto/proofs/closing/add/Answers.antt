use Rattle.std.proofs.Common.{true≢false, ◌≡◌, ◌∙◌, Contains, length, set, sym, subst, arith}
use Rattle.aa_auto.specs.Closed.{Adds}
use Rattle.aa_auto.proofs.ClosedLemmas.{was_there, was_added}
use Rattle.aa_auto.proofs.closing.add.Goals as goal

pub returns-then-is_in : goal.returns-then-is_in
returns-then-is_in c =
    was_there c.args.indexes.now c.args.set.now.items c.args.number c.requires.indexed (subst (λ z. Contains z c.args.number) c.as_slice.ensures.value (c.is_in.ensures.0 c.if-is_in.true))

pub returns : goal.returns
returns c =
    let long : length c.args.set.now.items ≡ c.len.result = omega (arith, c.len.ensures, c.args.set.now.ok) in
    subst (λ z. Adds c.args.indexes.now (set c.args.indexes.now c.args.number z) c.args.set.now.items c.push.new.self.items c.args.number) long
    (subst (λ z. Adds c.args.indexes.now (set c.args.indexes.now c.args.number (length c.args.set.now.items)) c.args.set.now.items z c.args.number) (sym c.in_ok-push.ensures.items)
    (was_added c.args.indexes.now c.args.set.now.items c.args.number c.requires.number c.requires.indexed
    (λ h. true≢false (sym (c.is_in.ensures.1 (subst (λ z. Contains z c.args.number) (sym c.as_slice.ensures.value) h)) ∙ c.if-is_in.false))))
