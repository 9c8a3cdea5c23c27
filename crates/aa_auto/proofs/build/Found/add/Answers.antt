use Rattle.aa_auto.proofs.build.Found.add.Goals as goal

pub numbers-requires-clause-set : goal.numbers-requires-clause-set
numbers-requires-clause-set c = c.requires.set
