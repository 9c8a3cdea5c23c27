use Rattle.std.proofs.Common.{List, [], ◌++◌, Contains, ap, ◌∙◌, subst}
use Rattle.std.specs.Borrow.{Bor}
use Rattle.aa_pattern.specs.declared.pattern.Pattern.{Pattern}
use Rattle.aa_auto.specs.Nodes.{pointed}
use Rattle.aa_regions.specs.declared.regions.Region.{Region}
use Rattle.aa_regions.specs.Regions.{AreRegions}
use Rattle.aa_representatives.specs.Alike.{changing}
use Rattle.aa_representatives.specs.Names.{AreNamePatterns}
use Rattle.aa_representatives.specs.Representatives.{HasChange}
use Rattle.aa_representatives.proofs.Changing.{witness_text, changes_stand}
use Rattle.aa_representatives.proofs.changes.change_representatives.Goals as goal

pub add_changes-requires : goal.add_changes-requires
add_changes-requires c = λ r in'.
    let regions = c.in_ok-regions.regions.items in
    witness_text (pointed c.as_slice-2.result.now) regions c.in_ok-regions.ensures.regions r (subst (λ (l : List Region). Contains l r) c.as_slice-3.ensures.value in')

pub returns-clause-representatives : goal.returns-clause-representatives
returns-clause-representatives c =
    let policies = c.args.policies.now in
    let label = c.args.label in
    let ps = pointed c.add_patterns.new.pointers.items in
    let regions = c.in_ok-regions.regions.items in
    let rs = c.add_changes.new.requests.items in
    let np : AreNamePatterns policies label ps = record {
      names = c.in_ok-names.names.items;
      are = c.in_ok-add_patterns.ensures
          ∙ ap (λ (l : List Pattern). l ++ c.as_slice.result.now) c.in_ok-patterns.ensures
          ∙ ap (λ (l : List Pattern). changing policies label ++ l) c.as_slice.ensures.value;
      literal = c.in_ok-names.ensures;
    } in
    let are = subst (λ (l : List (Bor Pattern)). AreRegions (pointed l) [] 1 1024 regions) c.as_slice-2.ensures.value c.in_ok-regions.ensures.regions in
    let has = subst (λ (l : List Region). (r : Region) → Contains l r → HasChange r.witness rs) c.as_slice-3.ensures.value c.in_ok-add_changes.ensures.has in
    changes_stand policies label ps np regions are rs has c.new-requests.result.items c.new-requests.ensures.items c.in_ok-add_changes.ensures.adds
