use Rattle.std.proofs.Common.{length, refl}
use Rattle.std.proofs.lemmas.Option.{slice_get_read}
use Rattle.aa_explain.proofs.Conflicting.{conflict, clash}
use Rattle.aa_explain.proofs.search.is_conflict.Goals as goal

pub returns : goal.returns
returns c =
    let all = c.args.rules.now in
    let one = c.in-Some.one.now in
    let other = c.in-Some-get.other.now in
    let a = c.in-Some.ensures.lookup in
    let b = c.in-Some-get.ensures.lookup in
    let at = slice_get_read all (length all) c.args.one one refl a.3.0 a.1 in
    let behind = slice_get_read all (length all) c.args.other other refl b.3.0 b.1 in (
      λ t. conflict all c.args.one c.args.other one other c.args.text.now at behind (c.clash_at.ensures.0 t),
      λ x. c.clash_at.ensures.1 (clash all c.args.one c.args.other one other c.args.text.now at behind x),
    )
