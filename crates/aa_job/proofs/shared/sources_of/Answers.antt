use Rattle.std.proofs.Common.{ℕ, List, option_to_list, flat_map, sym, ap, ◌∙◌}
use Rattle.std.specs.Borrow.{Bor}
use Rattle.std.specs.Map.{values_of}
use Rattle.std.specs.Map.Iter.{deref}
use Rattle.std.proofs.lemmas.Map.Iter.{iter_end}
use Rattle.std.proofs.lemmas.List.Folds.{flat_map-map}
use Rattle.aa_files.specs.declared.unit.Source.{Source}
use Rattle.aa_job.specs.declared.shared.Meaning.{Meaning}
use Rattle.aa_job.specs.Shared.{Kept, found_source}
use Rattle.aa_job.proofs.shared.sources_of.Goals as goal

abbrev kept_source : Meaning → List Source
kept_source m = option_to_list (found_source m.source)

pub returns-clause-sources : goal.returns-clause-sources
returns-clause-sources c =
    let es : Kept = c.args.meanings.now.entries in
    let end = iter_end deref (values_of es) c.loop-meaning.yielded c.into_iter-meaning-iterator.result c.loop-meaning.meaning-iterator c.next.new.self c.next.result (cc) c.loop-meaning.yielded_by c.in-None.is c.next.ensures.steps in
    c.loop-meaning.invariant ∙ sym (flat_map-map kept_source deref c.loop-meaning.yielded) ∙ ap (λ (ms : List Meaning). flat_map kept_source ms) end.0 ∙ flat_map-map kept_source (λ (e : Bor (List ℕ) × Meaning). e.1) es
