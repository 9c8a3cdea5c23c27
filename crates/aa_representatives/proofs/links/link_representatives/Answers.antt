use Rattle.std.proofs.Common.{ℕ, List, Contains, subst}
use Rattle.aa_representatives.specs.Representatives.{HasLinks}
use Rattle.aa_representatives.proofs.Linking.{links_stand}
use Rattle.aa_representatives.proofs.links.link_representatives.Goals as goal

pub returns-clause-representatives : goal.returns-clause-representatives
returns-clause-representatives c =
    let rs = c.add_links.new.requests.items in
    let paths = c.in_ok-paths.paths.items in
    let has = subst (λ (l : List (List ℕ)). (s u : List ℕ) → Contains l s → Contains l u → HasLinks s u rs) c.as_slice-2.ensures.value c.in_ok-add_links.ensures.has in
    links_stand c.args.policies.now c.args.label paths c.in_ok-paths.ensures rs has c.new-requests.result.items c.new-requests.ensures.items c.in_ok-add_links.ensures.adds
