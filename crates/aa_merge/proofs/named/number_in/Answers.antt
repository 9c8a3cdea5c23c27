use Rattle.std.proofs.Common.{rules, tests, bytes_eq, sym, ◌∙◌}
use Rattle.std.proofs.lemmas.Iterator.{YieldsList-from_slice}
use Rattle.std.proofs.lemmas.Iterator.Search.{position_from_yields_List}
use Rattle.aa_log.proofs.Entries.{position-map}
use Rattle.aa_merge.proofs.named.number_in.Goals as goal

pub returns-clause-number : goal.returns-clause-number
returns-clause-number c =
    position_from_yields_List (λ entry. bytes_eq entry.now c.args.name.now) _ _ c.position.result c.position.ensures.ran
    (YieldsList-from_slice _ c.iter.ensures.rest) (λ x b q k. search (rules, tests))
    ∙ sym (position-map (λ entry. bytes_eq entry c.args.name.now) (λ entry. entry.now) c.args.table.now)
