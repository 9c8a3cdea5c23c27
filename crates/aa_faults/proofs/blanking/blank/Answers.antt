use Rattle.std.proofs.Common.{◌≡◌, ◌∙◌, length, sym, subst, refl}
use Rattle.std.specs.Vec.{with_items}
use Rattle.std.proofs.lemmas.List.{with_items_is}
use Rattle.aa_files.specs.declared.unit.Unit as unit
use Rattle.aa_faults.specs.Blanks.{AreBlanked, HasBlanked}
use Rattle.aa_faults.proofs.blanking.blank.Goals as goal

pub returns-in-Some : goal.returns-in-Some
returns-in-Some c =
    let u : unit.Unit = c.args.unit.now in
    let sources = c.blank_at.new.sources in
    let v : unit.Unit = record u { sources = with_items u.sources sources } in
    let many : length sources ≡ u.sources.len = c.blank_at.auto.sources ∙ c.as_mut_slice.ensures.len in
    record {
      path = refl;
      known = refl;
      order = refl;
      texts = subst (λ o. HasBlanked c.args.extent u v o) (sym c.in-Some.is ∙ c.index_of.ensures) (
        refl,
        subst (λ s. AreBlanked c.args.extent c.in-Some.index u.sources.items s) (sym (with_items_is u.sources sources many))
            (subst (λ s. AreBlanked c.args.extent c.in-Some.index s sources) c.as_mut_slice.ensures.value c.blank_at.ensures),
      );
    }
