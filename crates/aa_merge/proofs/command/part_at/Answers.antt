use Rattle.std.proofs.Common.{◌≡◌, sym, subst, List, Some, IfSome}
use Rattle.std.specs.Prelude.{ℕ}
use Rattle.std.proofs.lemmas.Result.{IfOk-weaker, IfErr-weaker}
use Rattle.aa_merge.specs.Held.{part_data}
use Rattle.aa_merge.proofs.Merged.{part_there, no_part_there}
use Rattle.aa_merge.proofs.command.part_at.Goals as goal

pub returns-in-Ok : goal.returns-in-Ok
returns-in-Ok g c =
    let files = g.P.Parts.parts c.args.parts.now in
    let path = c.args.path.now in
    let bytes = c.as_slice.result.now in
    let there : IfSome files (λ f. f path ≡ Some bytes) = subst (λ (b : List ℕ). IfSome files (λ f. f path ≡ Some b))
    (sym c.as_slice.ensures.value) c.in-Ok.ensures in
    record {
      part = IfOk-weaker c.part_of.result _ _ (λ p is. part_there files path bytes (part_data p) there is) c.part_of.ensures.part;
      not = IfErr-weaker c.part_of.result _ _ (λ u is before. no_part_there files path bytes before u there is) c.part_of.ensures.not;
    }
