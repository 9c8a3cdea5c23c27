use Rattle.std.proofs.Common.{◌≡◌, ◌++◌, map}
use Rattle.aa_files.specs.Texts.{texts}
use Rattle.aa_question.specs.Memory.{names_behind, row_of}
use Rattle.aa_question.proofs.memory.Texts.names_behind.Given as goal

abbrev pub invariant-loop-path : goal.invariant-loop-path
invariant-loop-path l = texts l.names.items ++ names_behind l.front (map row_of l.path-iterator) ≡ names_behind l.front (map row_of l.self.rows.entries)
