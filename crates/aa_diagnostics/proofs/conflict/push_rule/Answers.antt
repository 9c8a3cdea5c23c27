use Rattle.std.proofs.Common.{[], ◌∷◌, length, refl, sym, ap, ◌∙◌, append-nil}
use Rattle.std.proofs.lemmas.List.{map_push}
use Rattle.std.proofs.lemmas.Option.{slice_get_read, slice_get_past}
use Rattle.aa_files.specs.Texts.{texts}
use Rattle.aa_diagnostics.proofs.Shown.{one_line, no_line}
use Rattle.aa_diagnostics.proofs.conflict.push_rule.Goals as goal

pub returns-in_ok-push : goal.returns-in_ok-push
returns-in_ok-push c =
    let places = c.args.places.now in
    let a = c.in-Some.ensures.lookup in
    let line = c.in_ok-rule_line.field-0 in (
      line.items ∷ [],
      one_line c.args.unit.now places c.args.number c.in-Some.at.now line.items (slice_get_read places (length places) c.args.number c.in-Some.at.now refl a.3.0 a.1) c.in_ok-rule_line.ensures,
      ap texts c.in_ok-push.ensures.items ∙ map_push (λ v. v.items) c.args.further.now.items line,
    )

pub returns-in_default : goal.returns-in_default
returns-in_default c = (
  [],
  no_line c.args.unit.now c.args.places.now c.args.number (slice_get_past c.args.places.now c.args.number c.in_default.ensures.lookup.3),
  sym (append-nil (texts c.args.further.now.items)),
)
