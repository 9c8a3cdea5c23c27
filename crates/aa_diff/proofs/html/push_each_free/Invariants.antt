use Rattle.std.proofs.Common.{◌≡◌, ◌++◌, take}
use Rattle.std.specs.Prelude.{flat_map}
use Rattle.aa_diff.specs.Html.{html_free_if}
use Rattle.aa_diff.proofs.html.push_each_free.Given as goal

abbrev pub invariant-loop-finding : goal.invariant-loop-finding
invariant-loop-finding l = l.out.items ≡ l.initial.out.items ++ flat_map html_free_if (take l.finding-index l.findings)
