use Rattle.std.proofs.Common.{eqb, ap, ◌∙◌}
use Rattle.std.specs.List.{dedup}
use Rattle.std.proofs.lemmas.List.Filters.{dedup_is}
use Rattle.aa_compile.proofs.owners.rules_of.Goals as goal

pub returns : goal.returns
returns c = dedup_is eqb _ _ c.dedup.ensures.filtered ∙ ap (dedup eqb) c.in_ok-rules.ensures
