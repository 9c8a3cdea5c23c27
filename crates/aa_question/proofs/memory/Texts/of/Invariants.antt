use Rattle.std.proofs.Common.{◌≡◌, [], map, length}
use Rattle.aa_question.specs.Memory.{put_all, row_of}
use Rattle.aa_question.proofs.memory.Texts.of.Given as goal

abbrev pub invariant-loop-path : goal.invariant-loop-path
invariant-loop-path l = put_all (map row_of l.list.items) (map row_of l.rows.entries) ≡ put_all (map row_of l.fn.list.items) []

abbrev pub decreases-loop-path : goal.decreases-loop-path
decreases-loop-path l = length l.list.items
