use Rattle.std.proofs.Common.{◌≡◌, ℕ, List, [], ◌∷◌, ◌++◌, map, take, sym, ap, ◌∙◌}
use Rattle.std.proofs.lemmas.List.{map-append}
use Rattle.aa_files.specs.Texts.{texts}
use Rattle.aa_reach.specs.declared.doubts.Doubt.{Doubt}
use Rattle.aa_reach.specs.Doubts.{Doubted, doubted, doubted_name}
use Rattle.aa_reach.proofs.Names.{one_more}
use Rattle.aa_reach.proofs.doubts.doubts_on.Goals as goal

pub loop-word-preserved : goal.loop-word-preserved
loop-word-preserved c =
    let name = doubted_name c.args.skipped.now in
    let words = c.args.words.now in
    let i = c.loop-word.word-index in
    let word = c.word-item.result in
    let d = c.in_ok-doubt_on.field-0 in
    ap (map doubted) c.in_ok-push.ensures.items ∙ map-append doubted c.loop-word.doubts.items (d ∷ [])
    ∙ ap (λ (ds : List Doubted). ds ++ doubted d ∷ []) c.loop-word.invariant
    ∙ ap (λ (x : Doubted). map name (texts (take i words)) ++ x ∷ []) (c.in_ok-doubt_on.ensures ∙ ap name c.as_slice.ensures.value)
    ∙ sym (map-append name (texts (take i words)) (word.items ∷ []))
    ∙ ap (map name) (sym (one_more words i word c.loop-word-test.true c.word-item.is))
