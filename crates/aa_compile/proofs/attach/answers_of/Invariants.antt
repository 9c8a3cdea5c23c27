use Rattle.std.proofs.Common.{◌≡◌, take}
use Rattle.aa_compile.specs.Attached.{answers_by}
use Rattle.aa_compile.proofs.attach.answers_of.Given as goal

abbrev pub invariant-loop-number : goal.invariant-loop-number
invariant-loop-number l = l.answers.items ≡ answers_by l.attachments (take l.number l.automaton.lists)
