use Rattle.std.proofs.lemmas.Grind.{common_steps}
use Rattle.std.proofs.Common.{rules}
use Rattle.std.proofs.Common.{arith}
use Rattle.aa_glob.proofs.Tokens.{with_front, goes_on, reads_done, reads_open, tokens_stop}
use Rattle.aa_glob.proofs.reader.items_of.Goals as goal

pub loop-at-preserved : goal.loop-at-preserved
loop-at-preserved c = search (rules, goes_on)

pub returns-in-Err : goal.returns-in-Err
returns-in-Err c = grind (arith, common_steps, with_front, tokens_stop)

pub returns-then-depth_of-eq0 : goal.returns-then-depth_of-eq0
returns-then-depth_of-eq0 c = search (rules, reads_done)

pub returns : goal.returns
returns c = search (rules, reads_open)
