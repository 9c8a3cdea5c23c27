use Rattle.std.proofs.Common.{Bool, is_some, sym, ap, ◌∙◌}
use Rattle.aa_compile.specs.Rows.{IsVerdictOf}
use Rattle.aa_compile.specs.Ways.{way_by}
use Rattle.aa_changed_rules.specs.Attachments.{range_by}
use Rattle.aa_changed_rules.proofs.Ranging.{moved, denied, nowhere, there}
use Rattle.aa_changed_rules.proofs.attachments.range_in.Goals as goal

pub returns-then-contains : goal.returns-then-contains
returns-then-contains c =
    let p = c.args.profile.now in
    let e = c.args.exec.now in
    let holds : IsVerdictOf (way_by p.files) p.files e.path e.owned c.verdict-verdict.result =
    moved _ _ _ _ _ _ c.path.ensures.path c.owned.ensures (c.verdict-verdict.ensures p c.requires) in
    denied p e c.verdict-verdict.result holds (sym (c.contains.ensures tt) ∙ c.if-contains.true)

pub returns-in-Some : goal.returns-in-Some
returns-in-Some c =
    let p = c.args.profile.now in
    let e = c.args.exec.now in
    let holds : IsVerdictOf (way_by p.files) p.files e.path e.owned c.verdict-verdict.result =
    moved _ _ _ _ _ _ c.path.ensures.path c.owned.ensures (c.verdict-verdict.ensures p c.requires) in
    there p e c.verdict-verdict.result holds c.in-Some.way _ (sym (c.contains.ensures tt) ∙ c.if-contains.false) c.in-Some.is
    (c.range_by.ensures ∙ ap (λ (b : Bool). range_by c.in-Some.way.kind b c.is_some-in-Some.result) c.is_some.ensures
    ∙ ap (λ (b : Bool). range_by c.in-Some.way.kind (is_some c.in-Some.way.target) b) c.is_some-in-Some.ensures)

pub returns-in-None : goal.returns-in-None
returns-in-None c =
    let p = c.args.profile.now in
    let e = c.args.exec.now in
    let holds : IsVerdictOf (way_by p.files) p.files e.path e.owned c.verdict-verdict.result =
    moved _ _ _ _ _ _ c.path.ensures.path c.owned.ensures (c.verdict-verdict.ensures p c.requires) in
    nowhere p e c.verdict-verdict.result holds (sym (c.contains.ensures tt) ∙ c.if-contains.false) c.in-None.is
