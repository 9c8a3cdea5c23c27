use Rattle.std.proofs.Common.{ap, Some}
use Rattle.json.proofs.Trees.{view-Array}
use Rattle.aa_jobs.proofs.Trees.{item_list_is}
use Rattle.aa_jobs.proofs.tree.items.Goals as goal

pub returns-in-Array : goal.returns-in-Array
returns-in-Array c = rw (c.as_slice.ensures.value, c.in-Array.is, view-Array c.in-Array.items) (ap Some (item_list_is c.in-Array.items.items))
