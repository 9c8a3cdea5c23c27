use Rattle.std.proofs.Common.{◌≡◌, take}
use Rattle.aa_representatives.specs.Names.{literal_of}
use Rattle.aa_reachability.proofs.execs.text_of.Given as goal

abbrev pub invariant-loop-item : goal.invariant-loop-item
invariant-loop-item l = take l.item-index l.item-items ≡ literal_of l.text.items
