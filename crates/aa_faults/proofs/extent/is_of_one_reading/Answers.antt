use Rattle.std.proofs.Common.{◌==◌, ◌∙◌, sym}
use Rattle.std.proofs.lemmas.List.Folds.{list_all-map}
use Rattle.aa_words.specs.Splits.{WordData, word_data}
use Rattle.aa_faults.proofs.extent.is_of_one_reading.Goals as goal

pub returns : goal.returns
returns c = c.are_all_of.ensures ∙ sym (list_all-map (λ (w : WordData). w.span.reading == c.args.reading) word_data c.args.words.now)
