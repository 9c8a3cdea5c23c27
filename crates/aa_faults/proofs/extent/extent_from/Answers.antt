use Rattle.std.proofs.Common.{◌≡◌, ◌-◌, ◌∙◌, length, ap, sym, refl, arith}
use Rattle.std.specs.Prelude.{slice_get, option_map}
use Rattle.std.specs.Option.{option_and_then}
use Rattle.std.proofs.lemmas.List.{length-map}
use Rattle.std.proofs.lemmas.Option.{slice_get-map, slice_get_read, slice_get_past}
use Rattle.aa_words.specs.Splits.{word_data, words_data}
use Rattle.aa_faults.specs.Extents.{extent_between}
use Rattle.aa_faults.proofs.extent.extent_from.Goals as goal

pub returns-in-Some : goal.returns-in-Some
returns-in-Some c =
    let u = c.args.unit.now in
    let words = c.args.statement.now in
    let s = words_data words in
    let n = c.saturating_sub.result in
    let same : length s - 1 ≡ n = omega (arith, length-map words word_data) in
    let there = c.in-Some.ensures.lookup in
    let is = slice_get_read words _ n c.in-Some.last.now refl there.3.0 there.1 in
    c.extent_between.ensures ∙ sym (ap (option_and_then (extent_between u s (word_data c.args.first.now))) (ap (slice_get s) same ∙ slice_get-map word_data words n ∙ ap (option_map word_data) is))

pub returns-in-None : goal.returns-in-None
returns-in-None c =
    let u = c.args.unit.now in
    let words = c.args.statement.now in
    let s = words_data words in
    let n = c.saturating_sub.result in
    let same : length s - 1 ≡ n = omega (arith, length-map words word_data) in
    let is = slice_get_past words n c.in-None.ensures.lookup.3 in
    sym (ap (option_and_then (extent_between u s (word_data c.args.first.now))) (ap (slice_get s) same ∙ slice_get-map word_data words n ∙ ap (option_map word_data) is))
