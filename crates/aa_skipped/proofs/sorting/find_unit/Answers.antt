use Rattle.aa_skipped.specs.Sorting.{Refused}
use Rattle.aa_skipped.proofs.sorting.find_unit.Goals as goal

pub returns-in_ok-skip_unit-in-Err : goal.returns-in_ok-skip_unit-in-Err
returns-in_ok-skip_unit-in-Err g c = λ loaded. (c.in_ok-skip_unit-in-Err.ensures.path, Refused c.args.unit loaded (c.in_ok-skip_unit-in-Err.ensures.refused c.in-Err.ensures.cause))
