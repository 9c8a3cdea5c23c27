use Rattle.std.proofs.Common.{◌≡◌, ◌∙◌, ◌++◌, ◌∷◌, [], ap, Some, arith, rules}
use Rattle.aa_pool.proofs.Cuts.{nil}
use Rattle.aa_engine.proofs.Streams.{bytes_of, one_more}
use Rattle.aa_engine.proofs.Writing.{joining_start, joining_more, joining_end}
use Rattle.aa_engine.proofs.texts.taken.Goals as goal

pub loop-text-init : goal.loop-text-init
loop-text-init g c =
    let same : c.into_iter-text-iterator.result.rest.items ≡ c.args.texts.items = search rules in
    joining_start _ _ c.args.texts.items (ap bytes_of c.in_ok-parts.ensures.items) same

pub loop-text-preserved : goal.loop-text-preserved
loop-text-preserved g c =
    let there : c.in-Some.text.lines ≡ Some c.in-Some-lines.lines = cc in
    let pushed : c.push.new.self.items ≡ c.loop-text.parts.items ++ c.in-Some-lines.lines ∷ [] = rw c.in-Some-lines.lines-is at c.in_ok-push.ensures.items in
    joining_more _ _ c.in-Some.text c.in-Some-lines.lines _ _ c.args.texts.items ((c.in-Some.ensures {u = tt}).steps.0) there
    (ap bytes_of pushed ∙ one_more c.loop-text.parts.items c.in-Some-lines.lines) c.loop-text.invariant

pub returns : goal.returns
returns g c =
    joining_end _ _ c.args.texts.items (nil _ (omega (arith, c.loop-text.text-iterator.rest.ok, (c.in-None.ensures {u = tt}).steps.0))) c.loop-text.invariant
