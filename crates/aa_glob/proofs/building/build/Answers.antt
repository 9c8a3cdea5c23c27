use Rattle.std.proofs.lemmas.Grind.{common_steps}
use Rattle.std.proofs.Common.{arith}
use Rattle.std.proofs.lemmas.List.{nil_from_length}
use Rattle.aa_glob.proofs.Stacks.{build_start, build_end, build_long, build_back, build_plain, steps_back}
use Rattle.aa_glob.proofs.building.build.Goals as goal

pub loop-top-init : goal.loop-top-init
loop-top-init c = grind (arith, common_steps, build_start)

pub returns-then-len-gt-MAX_BYTES-clause-built : goal.returns-then-len-gt-MAX_BYTES-clause-built
returns-then-len-gt-MAX_BYTES-clause-built c = grind (arith, common_steps, build_long)

pub returns-in_default-pop-clause-built : goal.returns-in_default-pop-clause-built
returns-in_default-pop-clause-built c =
    build_end c.loop-top.invariant c.in_default.ensures.first (nil_from_length c.loop-top.stack.items (omega (arith, c.in_default-pop.ensures.cases.0, c.loop-top.stack.ok)))

pub loop-top-preserved-in_default : goal.loop-top-preserved-in_default
loop-top-preserved-in_default c = grind (arith, common_steps, build_back)

pub loop-top-smaller-in_default : goal.loop-top-smaller-in_default
loop-top-smaller-in_default c = grind (arith, common_steps, steps_back)

pub loop-top-preserved-in-Plain : goal.loop-top-preserved-in-Plain
loop-top-preserved-in-Plain c = grind (arith, common_steps, build_plain)
