use Rattle.std.proofs.Common.{◌≡◌, take, map}
use Rattle.aa_check.specs.Sarif.{link_text}
use Rattle.aa_check.specs.Notified.{related}
use Rattle.aa_check.proofs.sarif.related_places.Given as goal

abbrev pub invariant-loop-link : goal.invariant-loop-link
invariant-loop-link l = related l.list.items ≡ map link_text (take l.link-index l.links)
