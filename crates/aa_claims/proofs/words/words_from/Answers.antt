use Rattle.std.proofs.Common.{sym, ap, ◌∙◌}
use Rattle.aa_claims.specs.Words.{next_data}
use Rattle.aa_claims.proofs.Between.{between_next, ends_at}
use Rattle.aa_claims.proofs.words.words_from.Goals as goal

pub words-preserved : goal.words-preserved
words-preserved c =
    between_next c.args.text.now c.args.start c.words.words.items c.push.new.self.items c.in-Word.word c.words.from c.in-Word.behind
    c.in_ok-push-in-Word.ensures.items c.words.invariant (sym c.in_ok-word.ensures.next ∙ ap next_data c.in-Word.is)

pub returns-clause-words : goal.returns-clause-words
returns-clause-words c = record { to = c.words.from; between = c.words.invariant; ends = ends_at c.args.text.now c.words.from c.words-test.false }
