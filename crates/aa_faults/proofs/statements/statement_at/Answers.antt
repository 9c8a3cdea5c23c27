use Rattle.std.proofs.Common.{◌∙◌, ap, sym, arith}
use Rattle.aa_words.specs.Splits.{words_data}
use Rattle.aa_faults.specs.Statements.{statement_at}
use Rattle.aa_faults.proofs.Parting.{found_here, found_behind}
use Rattle.aa_faults.proofs.statements.statement_at.Goals as goal

pub returns-then-has_word_at : goal.returns-then-has_word_at
returns-then-has_word_at c =
    let here = found_here c.args.at c.loop-rest.rest.now c.first_length-length.result (omega arith) c.first_length-length.ensures.length (sym c.has_word_at.ensures ∙ c.if-has_word_at.true) in
    sym here ∙ c.loop-rest.invariant

pub loop-rest-preserved : goal.loop-rest-preserved
loop-rest-preserved c =
    let behind = found_behind c.args.at c.loop-rest.rest.now c.first_length-length.result (omega arith) c.first_length-length.ensures.length
    (sym c.has_word_at.ensures ∙ c.if-has_word_at.false) in
    ap (λ ws. statement_at c.args.at (words_data ws)) c.behind-rest.ensures ∙ sym behind ∙ c.loop-rest.invariant
