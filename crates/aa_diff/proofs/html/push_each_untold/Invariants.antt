use Rattle.std.proofs.Common.{◌≡◌, ◌++◌, take, map}
use Rattle.std.specs.Prelude.{flat_map}
use Rattle.aa_diff.specs.Untold.{untold}
use Rattle.aa_diff.specs.Html.{html_untold}
use Rattle.aa_diff.proofs.html.push_each_untold.Given as goal

abbrev pub invariant-loop-doubt : goal.invariant-loop-doubt
invariant-loop-doubt l = l.out.items ≡ l.initial.out.items ++ flat_map (html_untold l.words) (map untold (take l.doubt-index l.doubts))
