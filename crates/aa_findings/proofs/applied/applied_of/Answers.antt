use Rattle.std.proofs.Common.{List, length, ap, ◌∙◌, arith}
use Rattle.std.specs.Global.{Global}
use Rattle.std.specs.declared.vec.Vec.{Vec}
use Rattle.std.proofs.lemmas.List.{length-map}
use Rattle.aa_model.specs.declared.rule.FileRule.{FileRule}
use Rattle.aa_findings.specs.Places.{lists, places, has}
use Rattle.aa_findings.proofs.Applying.{are_applied}
use Rattle.aa_findings.proofs.applied.applied_of.Goals as goal

pub returns : goal.returns
returns c =
    let files = c.args.profile.now.files in
    let index = c.in_ok-index.index.items in
    let long = ap (λ (rs : List FileRule). length rs) c.as_slice-2.ensures in
    are_applied files c.args.rows.now (lists c.in_ok-all.all.items) (lists index) c.in_ok-all.ensures
    (length-map index (λ (v : Vec _ Global). v.items) ∙ c.in_ok-index.ensures.many ∙ long)
    (λ n lt. c.in_ok-index.ensures.each n (omega (arith, lt, long)) ∙ ap (λ vs. places (has n) (lists vs)) c.as_slice.ensures.value)
