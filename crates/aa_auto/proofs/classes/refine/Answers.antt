use Rattle.aa_auto.specs.declared.classes.Classes.{Classes}
use Rattle.aa_auto.proofs.DivisionLemmas.{if_ok, refines}
use Rattle.aa_auto.proofs.classes.refine.Goals as goal

pub returns : goal.returns
returns c =
    if_ok c.divide.result
    (λ (new : Classes) d. refines c.args.of.now c.args.item.now c.in_ok-keys.keys.items c.as_slice.result.now new.of.items new.bytes.items c.as_slice.ensures.value c.in_ok-keys.ensures d)
    c.divide.ensures
