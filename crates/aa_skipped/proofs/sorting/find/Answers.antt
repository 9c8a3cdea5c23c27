use Rattle.aa_skipped.specs.Sorting.{Unreadable}
use Rattle.aa_skipped.proofs.sorting.find.Goals as goal

pub returns-in_ok-skip_unreadable-in-Err : goal.returns-in_ok-skip_unreadable-in-Err
returns-in_ok-skip_unreadable-in-Err g c =
    (c.in_ok-skip_unreadable-in-Err.ensures.path, Unreadable (c.in_ok-skip_unreadable-in-Err.ensures.unreadable c.in-Err.ensures.fault))
