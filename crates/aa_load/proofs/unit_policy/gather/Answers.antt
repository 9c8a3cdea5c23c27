use Rattle.std.proofs.lemmas.Grind.{common_steps}
use Rattle.std.proofs.Common.{◌+◌, drop, get_or, subst, arith}
use Rattle.aa_files.specs.Numbers.{named_texts, named_texts_at}
use Rattle.aa_load.proofs.Gathering.{Gathered, gathered_more, here}
use Rattle.aa_load.proofs.unit_policy.gather.Goals as goal

pub loop-index-preserved : goal.loop-index-preserved
loop-index-preserved c =
    let all = c.args.all.now in
    let order = c.args.order.now in
    let i = c.loop-index.index-index in
    let left = here (named_texts_at all) order i 0 c.loop-index-test.true in
    gathered_more (named_texts order all) (named_texts (drop (i + 1) order) all) c.loop-index.sources (named_texts_at all (get_or order i 0)) c.add_source.new.sources
    (subst (λ l. Gathered (named_texts order all) l c.loop-index.sources) left c.loop-index.invariant) c.in-Ok.ensures.fits c.in-Ok.ensures.added

pub returns-clause-gathered : goal.returns-clause-gathered
returns-clause-gathered c = grind (arith, common_steps)

pub returns-clause-fit : goal.returns-clause-fit
returns-clause-fit c = grind (arith, common_steps)

pub returns-in-Err-clause-cause : goal.returns-in-Err-clause-cause
returns-in-Err-clause-cause c = grind (arith, common_steps)
