use Rattle.std.proofs.Common.{List, [], ap, ◌∙◌}
use Rattle.aa_words.specs.declared.word.Word.{Word}
use Rattle.aa_words.specs.Splits.{words_data}
use Rattle.aa_diagnostics.specs.Earlier.{set_again}
use Rattle.aa_diagnostics.proofs.SetTwice.{set_twice}
use Rattle.aa_diagnostics.proofs.variables.earlier_variable.Goals as goal

pub returns-clause-twice : goal.returns-clause-twice
returns-clause-twice c =
    set_twice _ _ _ (c.set_again.ensures ∙ ap (λ (ws : List Word). set_again c.args.at [] (words_data ws)) c.as_slice.ensures.value)
