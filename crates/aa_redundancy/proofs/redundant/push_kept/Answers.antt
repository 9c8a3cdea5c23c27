use Rattle.std.proofs.Common.{refl}
use Rattle.aa_redundancy.specs.Adding.{four}
use Rattle.aa_redundancy.proofs.redundant.push_kept.Goals as goal

pub returns : goal.returns
returns c = record {
  tables = record { tables = four c.in_ok-own.own; are = c.in_ok-push_four.ensures; alike = c.in_ok-own.ensures.alike; within = c.in_ok-own.ensures.within };
  profile = record { number = c.args.number; why = c.in_ok-why.why };
  number = refl;
  why = c.in_ok-why.ensures;
  untold = c.in_ok-push.ensures.items;
}
