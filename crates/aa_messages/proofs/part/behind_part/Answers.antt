use Rattle.std.proofs.Common.{◌+◌, ◌∙◌, Some, length, drop, sym, ap, arith}
use Rattle.std.proofs.lemmas.List.{take_all, length-drop}
use Rattle.aa_messages.proofs.Standing.{behind, nowhere}
use Rattle.aa_messages.proofs.part.behind_part.Goals as goal

pub returns-in-Some : goal.returns-in-Some
returns-in-Some c =
    let found = rw c.as_bytes.ensures.value at c.in-Some.ensures in
    let end = c.in-Some.at + length c.args.part.now in
    ap Some (take_all _ (drop end c.args.text.now) (omega (arith, length-drop end c.args.text.now)))
    ∙ sym (behind c.args.part.now c.args.text.now _ c.requires found.1 (λ m lt. found.0.before m (omega arith) lt))

pub returns-in-None : goal.returns-in-None
returns-in-None c =
    let fails = rw c.as_bytes.ensures.value at c.in-None.ensures in
    sym (nowhere c.args.part.now c.args.text.now (λ k occurs. fails k (omega arith) (omega (arith, occurs.fits)) occurs))
