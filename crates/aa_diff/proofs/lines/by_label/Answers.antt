use Rattle.std.proofs.Common.{ap, ◌∙◌, map, rules}
use Rattle.std.proofs.lemmas.Cmp.{on_total}
use Rattle.aa_diff.specs.declared.lines.Line.{Line}
use Rattle.aa_diff.specs.Lines.{told, line_cmp, stands_above}
use Rattle.aa_diff.proofs.Placing.{line_total}
use Rattle.aa_diff.proofs.Sorting.{sorted_by_cmp, map_sorted}
use Rattle.aa_diff.proofs.lines.by_label.Goals as goal

pub returns : goal.returns
returns c =
    let ps = c.args.policies.now in
    ap (map told)
    (sorted_by_cmp (λ (k l : Line). line_cmp ps (told k) (told l)) (on_total told (line_total ps)) _ _ c.in_ok-sort_by.ensures.sorted
    c.in_ok-sort_by.ensures.stable (λ a r f' k. search rules))
    ∙ map_sorted told (stands_above ps) c.args.lines.items
