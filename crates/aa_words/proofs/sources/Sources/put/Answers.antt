use Rattle.aa_words.proofs.Named.{added}
use Rattle.aa_words.proofs.sources.Sources.put.Goals as goal

pub returns-clause-ok : goal.returns-clause-ok
returns-clause-ok c =
    added c.args.name.now c.args.text.now _ _ _ _ c.args.self.now c.in_ok-name.ensures.items c.in_ok-text.ensures.items c.self.view_is c.requires.new c.in_ok-insert.ensures.entries
