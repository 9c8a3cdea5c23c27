use Rattle.std.proofs.Common.{◌≡◌, take}
use Rattle.aa_files.specs.Texts.{texts, slices}
use Rattle.aapolicy_tests.proofs.tree.copies_of.Given as goal

abbrev pub invariant-loop-name : goal.invariant-loop-name
invariant-loop-name l = texts l.copies.items ≡ slices (take l.name-index l.names)
