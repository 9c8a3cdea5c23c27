use Rattle.std.proofs.Common.{map, arith, refl}
use Rattle.aa_reach.specs.Names.{name_of}
use Rattle.aa_reach.specs.Doubts.{doubted}
use Rattle.aa_reach.proofs.Shutting.{none_doubted_if, some_doubted_if}
use Rattle.aa_reach.proofs.doubts.push_with.Goals as goal

pub returns-then-is_empty : goal.returns-then-is_empty
returns-then-is_empty c =
    none_doubted_if (name_of c.args.policies.now c.args.label) c.args.files.items (map doubted c.args.doubts.now.items)
    (grind (arith, c.is_empty.ensures, c.if-is_empty.true))

pub returns : goal.returns
returns c =
    some_doubted_if (name_of c.args.policies.now c.args.label) c.args.files.items c.args.doubts.now.items c.push.new.self.items
    (record { at = c.in_ok-at.at; files = c.args.files }) (grind (arith, c.is_empty.ensures, c.if-is_empty.false)) c.in_ok-push.ensures.items
    c.in_ok-at.ensures refl
