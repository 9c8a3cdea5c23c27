use Rattle.std.proofs.Common.{arith}
use Rattle.aa_auto.proofs.AutomatonLemmas.{built}
use Rattle.aa_auto.proofs.JumpLemmas.{lists}
use Rattle.aa_auto.proofs.automaton.Automaton.from_parts.Goals as goal

pub invariant_of-result : goal.invariant_of-result
invariant_of-result c =
    (built c.args.net.now c.requires.net c.args.found.sets c.args.classes.of.items c.args.classes.bytes.items c.args.cells c.args.found.lists
    c.requires.classes c.requires.explored c.requires.few
    c.len.result c.shrink_to_fit.new.self c.in_ok-lists.listed (lists c.in_ok-lists.lists.items)
    (omega (arith, c.len.ensures, c.args.classes.bytes.ok)) c.shrink_to_fit.ensures c.in_ok-lists.ensures.listed c.in_ok-lists.ensures.lists).0

pub returns-clause-automaton : goal.returns-clause-automaton
returns-clause-automaton c =
    (built c.args.net.now c.requires.net c.args.found.sets c.args.classes.of.items c.args.classes.bytes.items c.args.cells c.args.found.lists
    c.requires.classes c.requires.explored c.requires.few
    c.len.result c.shrink_to_fit.new.self c.in_ok-lists.listed (lists c.in_ok-lists.lists.items)
    (omega (arith, c.len.ensures, c.args.classes.bytes.ok)) c.shrink_to_fit.ensures c.in_ok-lists.ensures.listed c.in_ok-lists.ensures.lists).1
