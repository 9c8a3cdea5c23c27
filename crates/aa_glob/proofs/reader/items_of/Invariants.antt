use Rattle.std.proofs.Common.{◌≡◌, ◌-◌, length, drop, false}
use Rattle.aa_glob.specs.Reading.{tokens_from}
use Rattle.aa_glob.specs.Stack.{so_far}
use Rattle.aa_glob.proofs.Tokens.{with_front}
use Rattle.aa_glob.proofs.reader.items_of.Given as goal

abbrev pub invariant-loop-at : goal.invariant-loop-at
invariant-loop-at l = with_front (so_far l.stack.items l.items.items) (tokens_from (length l.stack.items) l.slash 0 (drop l.at l.list)) ≡ tokens_from 0 false 0 l.list

abbrev pub decreases-loop-at : goal.decreases-loop-at
decreases-loop-at l = length l.list - l.at
