use Rattle.std.proofs.Common.{◌<◌, ◌∙◌, ◌≡◌, arith, inl, inr, length, get_or, refl, subst}
use Rattle.std.proofs.lemmas.List.{get_or_default}
use Rattle.aa_auto.specs.declared.nodes.Node.TheVariants.{Same}
use Rattle.aa_auto.specs.Merged.{Pushes}
use Rattle.aa_auto.proofs.MoveLemmas.{on_ok}
use Rattle.aa_auto.proofs.merging.Merged.go_to.Goals as goal

pub returns-then-source-len : goal.returns-then-source-len
returns-then-source-len c = inl (refl, omega (arith, c.if-source-len.true, c.len.ensures, c.args.self.now.nodes.ok))

pub returns : goal.returns
returns c =
    let s = c.args.self.now in
    let lt : c.args.source < length s.firsts.items = omega (arith, c.requires.source, c.requires.whole) in
    let e : c.index-first.result.now ≡ get_or s.firsts.items c.args.source 0 = c.index-first.ensures ∙
    get_or_default s.firsts.items c.args.source c.index-first.result.now 0 lt in
    on_ok c.push.result (λ p. inr (subst (λ f. Pushes s c.push.new.self (Same c.args.source) f) e p)) c.push.ensures
