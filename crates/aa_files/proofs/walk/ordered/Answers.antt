use Rattle.std.proofs.Common.{ℕ, List, Option, option_to_list, flat_map, sym, ap, ◌∙◌}
use Rattle.std.specs.Map.{values_of}
use Rattle.std.specs.Map.Iter.{deref}
use Rattle.std.proofs.lemmas.Map.Iter.{iter_end}
use Rattle.aa_files.specs.Walks.{Entry}
use Rattle.aa_files.proofs.Lists.{flat_map_map}
use Rattle.aa_files.proofs.walk.ordered.Goals as goal

pub returns-clause-order : goal.returns-clause-order
returns-clause-order c =
    let es : List Entry = c.args.known.now.entries in
    let end = iter_end deref (values_of es) c.loop-index.yielded c.into_iter-index-iterator.result c.loop-index.index-iterator c.next.new.self c.next.result (cc) c.loop-index.yielded_by c.in-None.is c.next.ensures.steps in
    c.loop-index.invariant ∙ sym (flat_map_map option_to_list deref c.loop-index.yielded) ∙ ap (λ (os : List (Option ℕ)). flat_map option_to_list os) end.0 ∙ flat_map_map option_to_list (λ (e : Entry). e.1) es
