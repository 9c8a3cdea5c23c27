use Rattle.std.proofs.Common.{List, ◌++◌, map, ap, ◌∙◌}
use Rattle.std.proofs.lemmas.List.{map-append}
use Rattle.aa_reach.specs.Doubts.{Doubted, doubted}
use Rattle.aa_reach.proofs.answering.all_doubts.Goals as goal

pub returns : goal.returns
returns c =
    ap (map doubted) c.in_ok-append.ensures.items ∙ map-append doubted c.in_ok-doubts.doubts.items c.args.others.items
    ∙ ap (λ (ds : List Doubted). ds ++ map doubted c.args.others.items) c.in_ok-doubts.ensures
