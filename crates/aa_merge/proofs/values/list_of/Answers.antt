use Rattle.std.proofs.Common.{ap, Some}
use Rattle.json.proofs.Trees.{view-Array}
use Rattle.aa_merge.proofs.Lists.{listed}
use Rattle.aa_merge.proofs.values.list_of.Goals as goal

pub returns-in-Array : goal.returns-in-Array
returns-in-Array c = rw (c.as_slice.ensures.value, c.in-Array.is, view-Array c.in-Array.items) (ap Some (listed c.in-Array.items.items))
