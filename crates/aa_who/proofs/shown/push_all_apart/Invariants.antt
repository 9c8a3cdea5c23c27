use Rattle.std.proofs.Common.{◌≡◌, ◌++◌, map, take, flat_map}
use Rattle.aa_who.specs.Grants.{granted}
use Rattle.aa_who.specs.Shown.{apart_text}
use Rattle.aa_who.proofs.shown.push_all_apart.Given as goal

abbrev pub invariant-loop-grant : goal.invariant-loop-grant
invariant-loop-grant l = l.out.items ≡ l.initial.out.items ++ flat_map (apart_text l.word) (map granted (take l.grant-index l.grants))
