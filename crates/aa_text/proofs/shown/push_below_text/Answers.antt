use Rattle.std.proofs.Common.{flat_map, sym, ap, ◌∙◌, ◌++◌, map-id, ℕ, List}
use Rattle.std.proofs.lemmas.Iterator.{YieldsList-from_chars}
use Rattle.std.proofs.lemmas.Iterator.Consumers.{YieldsList-end}
use Rattle.aa_text.specs.Excerpts.{below}
use Rattle.aa_text.proofs.shown.push_below_text.Goals as goal

pub returns : goal.returns
returns c =
    let end = YieldsList-end (YieldsList-from_chars c.args.text.now c.utf8.text cc) c.loop-c.yielded _ c.loop-c.yielded_by _ _ c.in-None.is c.next.ensures.steps in
    c.loop-c.invariant ∙ ap (λ (cs : List ℕ). c.args.out.now.items ++ flat_map below cs) (sym (map-id c.loop-c.yielded) ∙ end.0)
