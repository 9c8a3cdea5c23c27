use Rattle.std.proofs.Common.{rules, tests, bytes_eq, ◌∙◌}
use Rattle.std.proofs.lemmas.Iterator.{YieldsList-from_slice}
use Rattle.std.proofs.lemmas.Iterator.Search.{position_from_yields_List}
use Rattle.aa_base.proofs.Entries.{number_in-map}
use Rattle.aa_base.proofs.table.number_in.Goals as goal

pub returns : goal.returns
returns c =
    position_from_yields_List (λ entry. bytes_eq entry.now c.args.name.now) _ _ c.position.result c.position.ensures.ran (YieldsList-from_slice _ c.iter.ensures.rest) (λ x b q k. search (rules, tests))
    ∙ number_in-map (λ entry. entry.now) c.args.table.now c.args.name.now
