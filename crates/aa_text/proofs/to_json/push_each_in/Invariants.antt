use Rattle.std.proofs.Common.{◌≡◌, ◌++◌, length, false}
use Rattle.aa_text.proofs.Commas.{left_in}
use Rattle.aa_text.proofs.to_json.push_each_in.Given as goal

abbrev pub invariant-loop-rest : goal.invariant-loop-rest
invariant-loop-rest g l = let is = g.T.ListItem.stands l.context in let text = g.T.ListItem.item l.context in l.out.items ++ left_in is text l.is_later l.rest ≡ l.initial.out.items ++ left_in is text false l.values

abbrev pub decreases-loop-rest : goal.decreases-loop-rest
decreases-loop-rest g l = length l.rest
