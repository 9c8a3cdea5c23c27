use Rattle.std.proofs.Common.{◌≡◌, ◌+◌, ◌∙◌, ap, get_or, arith, List}
use Rattle.std.specs.List.{slice_get}
use Rattle.aa_logs.specs.declared.word.LogWord.{LogWord}
use Rattle.aa_logs.specs.Words.{WordData}
use Rattle.aa_logs.specs.Fields.{field_in}
use Rattle.aa_logs.specs.Keys.{key_name, number}
use Rattle.aa_logs.proofs.ByKeys.{placed_word}
use Rattle.aa_logs.proofs.keyed.KeyedWords.last.Goals as goal

pub returns : goal.returns
returns c =
    let places = c.self.inside.places in
    let at = c.in_ok-at.at in
    let noted : get_or places c.number.result 0 ≡ at + 1 = omega (arith, (c.in_ok-at.ensures).0, (c.in_ok-at.ensures).1) in
    let place : get_or places (number c.args.key) 0 ≡ at + 1 = rw (← c.number.ensures.value) noted in
    let word = c.word_at.ensures ∙ ap (λ (l : List LogWord). slice_get l at) c.as_slice.ensures.value in
    placed_word c.self.inside.words.items _ at c.word_at.result _ place word (c.self.invariant.found c.args.key)
    ∙ ap (λ (ws : List WordData). field_in (key_name c.args.key) ws) c.self.view_is
