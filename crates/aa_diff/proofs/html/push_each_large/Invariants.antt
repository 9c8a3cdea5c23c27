use Rattle.std.proofs.Common.{◌≡◌, ◌++◌, take, map}
use Rattle.std.specs.Prelude.{flat_map}
use Rattle.aa_diff.specs.Untold.{large}
use Rattle.aa_diff.specs.Html.{html_large}
use Rattle.aa_diff.proofs.html.push_each_large.Given as goal

abbrev pub invariant-loop-one : goal.invariant-loop-one
invariant-loop-one l = l.out.items ≡ l.initial.out.items ++ flat_map html_large (map large (take l.one-index l.too_large))
