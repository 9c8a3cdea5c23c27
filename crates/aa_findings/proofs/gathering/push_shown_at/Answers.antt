use Rattle.std.proofs.Common.{◌≡◌, ◌++◌, [], Option, None, sym, ap, ◌∙◌}
use Rattle.std.specs.List.{slice_get}
use Rattle.std.specs.Option.{option_map_or}
use Rattle.std.proofs.lemmas.List.{append-nil}
use Rattle.std.proofs.lemmas.Option.{slice_get_past}
use Rattle.aa_findings.specs.declared.rows.Row.{Row}
use Rattle.aa_findings.specs.Gathered.{shown_at}
use Rattle.aa_findings.proofs.gathering.push_shown_at.Goals as goal

pub returns-in-None : goal.returns-in-None
returns-in-None c =
    let old = c.args.paths.now.items in
    let none : slice_get c.args.rows.now c.args.place ≡ None = slice_get_past c.args.rows.now c.args.place c.in-None.ensures.lookup.3 in
    sym (ap (λ (o : Option Row). old ++ option_map_or (shown_at c.args.kind c.args.rule.now) o []) none ∙ append-nil old)
