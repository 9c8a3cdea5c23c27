use Rattle.std.proofs.Common.{List, [], ◌++◌, Contains, ap, ◌∙◌, subst}
use Rattle.std.specs.Borrow.{Bor}
use Rattle.aa_pattern.specs.declared.pattern.Pattern.{Pattern}
use Rattle.aa_auto.specs.Nodes.{pointed}
use Rattle.aa_model.specs.declared.request.Request.{Request}
use Rattle.aa_regions.specs.declared.regions.Region.{Region}
use Rattle.aa_regions.specs.Regions.{AreRegions}
use Rattle.aa_representatives.specs.Alike.{changing}
use Rattle.aa_representatives.specs.Askable.{IsChange}
use Rattle.aa_representatives.specs.Both.{AreNamePatternsOfBoth}
use Rattle.aa_representatives.specs.Representatives.{HasChange}
use Rattle.aa_representatives.proofs.Adding.{none_in}
use Rattle.aa_representatives.proofs.Changing.{witness_text}
use Rattle.aa_representatives.proofs.BothStanding.{change_askable, askable_more}
use Rattle.aa_representatives.proofs.BothChanging.{changes_at_both}
use Rattle.aa_representatives.proofs.both.at_names.Goals as goal

pub add_changes-requires : goal.add_changes-requires
add_changes-requires c = λ r in'.
    let regions = c.in_ok-regions.regions.items in
    witness_text (pointed c.as_slice-3.result.now) regions c.in_ok-regions.ensures.regions r (subst (λ (l : List Region). Contains l r) c.as_slice-4.ensures.value in')

pub returns-clause-each : goal.returns-clause-each
returns-clause-each c =
    askable_more IsChange change_askable c.new-requests.result.items c.add_changes.new.requests.items c.in_ok-add_changes.ensures.adds
    (λ r d. absurd (none_in r (subst (λ (l : List Request). Contains l r) c.new-requests.ensures.items d)))

pub returns-clause-changes : goal.returns-clause-changes
returns-clause-changes c =
    let ps = c.args.one.now in
    let qs = c.args.other.now in
    let patterns = pointed c.add_patterns-2.new.pointers.items in
    let regions = c.in_ok-regions.regions.items in
    let rs = c.add_changes.new.requests.items in
    let names = c.in_ok-names.names.items in
    let others = c.in_ok-others.others.items in
    let rules : List Pattern = changing ps c.args.from ++ changing qs c.args.to in
    let np : AreNamePatternsOfBoth ps c.args.from qs c.args.to patterns = record {
      names = names;
      others = others;
      are = c.in_ok-add_patterns-2.ensures
          ∙ ap (λ (l : List Pattern). l ++ c.as_slice-2.result.now)
          (c.in_ok-add_patterns.ensures ∙ ap (λ (l : List Pattern). l ++ c.as_slice.result.now) c.in_ok-patterns.ensures
          ∙ ap (λ (l : List Pattern). rules ++ l) c.as_slice.ensures.value)
          ∙ ap (λ (l : List Pattern). (rules ++ names) ++ l) c.as_slice-2.ensures.value;
      literal = c.in_ok-names.ensures;
      literal_others = c.in_ok-others.ensures;
    } in
    let are = subst (λ (l : List (Bor Pattern)). AreRegions (pointed l) [] 1 1024 regions) c.as_slice-3.ensures.value c.in_ok-regions.ensures.regions in
    let has = subst (λ (l : List Region). (r : Region) → Contains l r → HasChange r.witness rs) c.as_slice-4.ensures.value c.in_ok-add_changes.ensures.has in
    changes_at_both ps c.args.from qs c.args.to patterns np regions are rs has
