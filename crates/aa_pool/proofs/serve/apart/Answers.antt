use Rattle.std.proofs.Common.{arith}
use Rattle.std.proofs.lemmas.Grind.{common_steps}
use Rattle.aa_pool.proofs.serve.apart.Goals as goal

pub loop-settled-init : goal.loop-settled-init
loop-settled-init g c = grind (arith, common_steps)

pub push_reserved-requires : goal.push_reserved-requires
push_reserved-requires g c = grind (arith, common_steps)

pub loop-settled-preserved : goal.loop-settled-preserved
loop-settled-preserved g c = record {
  all = grind (arith, common_steps);
  room = grind (arith, common_steps);
}

pub returns : goal.returns
returns g c = grind (arith, common_steps)
