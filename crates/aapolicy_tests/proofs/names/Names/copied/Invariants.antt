use Rattle.std.proofs.Common.{◌≡◌, take}
use Rattle.aa_files.specs.Texts.{texts}
use Rattle.aapolicy_tests.proofs.names.Names.copied.Given as goal

abbrev pub invariant-loop-name : goal.invariant-loop-name
invariant-loop-name l = texts l.copy.items ≡ texts (take l.name-index l.self.list.items)
