use Rattle.std.proofs.Common.{List, sym, subst}
use Rattle.aa_words.specs.declared.word.Word.{Word}
use Rattle.aa_words.specs.Splits.{words_data}
use Rattle.aa_policy.specs.Bodies.{IsPolicy}
use Rattle.aa_explain.proofs.places.rule_places.Goals as goal

pub returns-clause-refused : goal.returns-clause-refused
returns-clause-refused c = λ h vars tree w. c.places_in.ensures.refused h vars tree (subst (λ (ws : List Word). IsPolicy (words_data ws) vars tree) (sym c.as_slice.ensures.value) w)
