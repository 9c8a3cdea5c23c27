use Rattle.std.proofs.Common.{◌≡◌, take}
use Rattle.aa_files.specs.Texts.{texts, slices}
use Rattle.aa_question.proofs.answering.slices_of.Given as goal

abbrev pub invariant-loop-one : goal.invariant-loop-one
invariant-loop-one l = slices l.found.items ≡ texts (take l.one-index l.list)
