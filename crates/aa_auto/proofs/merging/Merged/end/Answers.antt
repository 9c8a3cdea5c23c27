use Rattle.std.proofs.Common.{◌≡◌, ◌<◌, ◌∙◌, arith, get_or, length, subst}
use Rattle.std.proofs.lemmas.List.{get_or_default}
use Rattle.aa_auto.specs.declared.nodes.Node.TheVariants.{Same}
use Rattle.aa_auto.specs.Merged.{AddsEnd, Pushes}
use Rattle.aa_auto.proofs.MergeLemmas.{end_made}
use Rattle.aa_auto.proofs.merging.Merged.end.Goals as goal

pub returns : goal.returns
returns c =
    let s = c.args.self.now in
    let lt : c.args.source < length s.firsts.items = omega (arith, c.requires.source, c.requires.whole) in
    let e : c.index-first.result.now ≡ get_or s.firsts.items c.args.source 0 = c.index-first.ensures ∙
    get_or_default s.firsts.items c.args.source c.index-first.result.now 0 lt in
    let n : length s.nodes.items ≡ c.len-new.result = omega (arith, c.len-new.ensures, s.nodes.ok) in
    subst (λ z. AddsEnd s c.push.new.self c.args.source z) n
    (end_made s c.push.new.self c.args.source c.requires.whole c.requires.source
    (subst (λ f. Pushes s c.push.new.self (Same c.args.source) f) e c.in_ok-push.ensures))
