use Rattle.std.proofs.Common.{ℕ, List, Bool, Option, Bor, sym, ap, ◌∙◌, subst}
use Rattle.std.specs.Option.{option_map}
use Rattle.aa_model.specs.declared.rule.FileRule.{FileRule}
use Rattle.aa_compile.specs.Rows.{IsVerdictOf}
use Rattle.aa_compile.specs.Ways.{way_by}
use Rattle.aa_skipping.specs.Undecided.{target_in, is_unsure}
use Rattle.aa_skipping.proofs.Targets.{led}
use Rattle.aa_skipping.proofs.undecided.exec_is_undecided.Goals as goal

pub returns-in_ok-unsure-in-Some : goal.returns-in_ok-unsure-in-Some
returns-in_ok-unsure-in-Some c =
    let p = c.args.profile.now in
    let r = c.args.request.now in
    let v = c.verdict-verdict.result in
    let w = c.in-Some.way in
    let said : IsVerdictOf (way_by p.files) p.files c.path-path.result.now c.owned.result v = c.verdict-verdict.ensures p c.requires.profile in
    let at_path : IsVerdictOf (way_by p.files) p.files r.path c.owned.result v =
    subst (λ (s : List ℕ). IsVerdictOf (way_by p.files) p.files s c.owned.result v) c.path-path.ensures.path said in
    let holds : IsVerdictOf (way_by p.files) p.files r.path r.owned v =
    subst (λ (b : Bool). IsVerdictOf (way_by p.files) p.files r.path b v) c.owned.ensures at_path in
    let target : Option (List ℕ) = option_map (λ (t : Bor (List ℕ)). t.now) c.target_by-target.result in
    led c.args.compiled.now.profiles c.args.unread.now p r v holds w target c.in_ok-unsure-in-Some.unsure
    (sym (c.contains.ensures tt) ∙ c.if-contains.false) c.in-Some.is
    (c.target_by-target.ensures ∙ ap (λ (rules : List FileRule). target_in rules w.target) c.as_slice.ensures)
    (c.in_ok-unsure-in-Some.ensures ∙ ap (λ (s : List ℕ). is_unsure c.args.compiled.now.profiles c.args.unread.now p s w.kind target) c.path-path.ensures.path)
