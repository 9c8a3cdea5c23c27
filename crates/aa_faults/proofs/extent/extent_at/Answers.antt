use Rattle.std.proofs.Common.{refl}
use Rattle.std.proofs.lemmas.Bool.{iff_false}
use Rattle.aa_faults.specs.Extents.{NoSources}
use Rattle.aa_faults.proofs.extent.extent_at.Goals as goal

pub returns-else-is_want_of_memory : goal.returns-else-is_want_of_memory
returns-else-is_want_of_memory c = NoSources c.in-Err.fault (c.in-Err.ensures.cause (iff_false c.is_want_of_memory.ensures c.if-is_want_of_memory.false)) refl
