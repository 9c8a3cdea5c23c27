use Rattle.std.proofs.Common.{List, ◌++◌, map, Some, sym, ap, ◌∙◌}
use Rattle.std.proofs.lemmas.List.{append-nil}
use Rattle.aa_diagnostics.specs.Named.{NamedAt, named_data}
use Rattle.aa_diagnostics.proofs.names.push_item.Goals as goal

pub returns-clause-found : goal.returns-clause-found
returns-clause-found c =
    let family = c.in_ok-next-2.ensures.found in
    (Some family.0, family.1, family.2 ∙ ap (λ (l : List NamedAt). map named_data c.args.names.now.items ++ l) (sym (append-nil _)))
