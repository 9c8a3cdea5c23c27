use Rattle.std.proofs.Common.{◌≡◌, ◌++◌, map}
use Rattle.aa_jobs.specs.Raw.{kept_work}
use Rattle.aa_jobs.proofs.meaning.asked_works.Given as goal

abbrev pub invariant-loop-kept : goal.invariant-loop-kept
invariant-loop-kept l = l.works.items ++ map kept_work l.kept-iterator.rest.items ≡ map kept_work l.fn.list.items
