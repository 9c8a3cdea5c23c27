use Rattle.std.proofs.Common.{◌≡◌, Some, map, option_map, sym, ap, ◌∙◌}
use Rattle.serde_json.specs.Find.{as_array}
use Rattle.serde_json.specs.View.{view, items_view}
use Rattle.aa_question.proofs.Lists.{items_are}
use Rattle.aa_question.proofs.values.items.Goals as goal

pub returns-in-Some : goal.returns-in-Some
returns-in-Some c =
    let found : as_array (view c.args.value.now) ≡ Some (items_view c.in-Some.values.now.items) = sym c.as_array.ensures ∙ ap (option_map (λ v. items_view v.now.items)) c.in-Some.is in
    rw (found, c.as_slice.ensures.value) (ap Some (sym (items_are (map view c.in-Some.values.now.items))))
