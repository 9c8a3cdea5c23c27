use Rattle.std.proofs.Common.{take}
use Rattle.aa_files.specs.Texts.{texts}
use Rattle.aa_reach.specs.Names.{AreNamed}
use Rattle.aa_reach.proofs.naming.names_of.Given as goal

abbrev pub invariant-loop-word : goal.invariant-loop-word
invariant-loop-word l = AreNamed l.policies l.skipped (texts (take l.word-index l.words)) l.labels.items (texts l.opens.items)
