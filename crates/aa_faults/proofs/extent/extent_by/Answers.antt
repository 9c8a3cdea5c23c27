use Rattle.std.proofs.Common.{◌∙◌, ap, sym, subst, refl}
use Rattle.std.proofs.lemmas.Bool.{iff_false}
use Rattle.aa_words.specs.Splits.{words_data, Splits}
use Rattle.aa_load.specs.UnitPolicy.{texts_of}
use Rattle.aa_faults.specs.Extents.{extent_among, NoWords, Words}
use Rattle.aa_faults.proofs.extent.extent_by.Goals as goal

pub returns-in-Ok : goal.returns-in-Ok
returns-in-Ok c =
    let u = c.args.unit.now in
    let ws = words_data c.in-Ok.list.list.items in
    Words ws (subst (λ text. Splits (texts_of u) text ws) c.as_slice.ensures.value (subst (λ s. Splits s c.as_slice.result.now ws) c.requires c.in-Ok.ensures.split))
    (c.extent_among.ensures ∙ ap (λ l. extent_among u c.args.at (words_data l)) c.as_slice-in-Ok.ensures.value)

pub returns-else-is_want_of_memory : goal.returns-else-is_want_of_memory
returns-else-is_want_of_memory c =
    let u = c.args.unit.now in
    NoWords (λ ws splits. c.in-Err.ensures.refused (iff_false c.is_want_of_memory.ensures c.if-is_want_of_memory.false) ws
    (subst (λ text. Splits c.args.sources.now text ws) (sym c.as_slice.ensures.value) (subst (λ s. Splits s u.text.items ws) (sym c.requires) splits))) refl
