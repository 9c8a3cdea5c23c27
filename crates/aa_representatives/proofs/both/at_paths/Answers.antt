use Rattle.std.proofs.Common.{ℕ, ◌+◌, List, Contains, subst, arith}
use Rattle.aa_model.specs.declared.request.Request.{Request}
use Rattle.aa_regions.specs.declared.regions.Region.{Region}
use Rattle.aa_representatives.specs.Askable.{IsFile, IsLink, IsExec}
use Rattle.aa_representatives.specs.Representatives.{HasFiles, HasExecs, HasLinks}
use Rattle.aa_representatives.proofs.Adding.{none_in, adds_keep}
use Rattle.aa_representatives.proofs.BothStanding.{file_askable, link_askable, exec_askable, askable_more, stand_keep, files_at_both, execs_at_both, links_at_both}
use Rattle.aa_representatives.proofs.Filing.{filing_few, filing_places}
use Rattle.aa_representatives.proofs.Making.{err_from}
use Rattle.aa_representatives.proofs.both.at_paths.Goals as goal

pub filing_regions_of_both-requires-clause-few : goal.filing_regions_of_both-requires-clause-few
filing_regions_of_both-requires-clause-few c =
    omega (arith, filing_few c.args.one.now c.args.from c.args.other.now c.args.to, c.in_ok-regions.ensures.few_patterns)

pub add_files-requires : goal.add_files-requires
add_files-requires c =
    λ r d. (c.in_ok-filing.ensures.regions.each r (subst (λ (l : List Region). Contains l r) c.as_slice-2.ensures.value d)).asked

pub returns-in_err-filing-clause-many_states : goal.returns-in_err-filing-clause-many_states
returns-in_err-filing-clause-many_states c = λ e.
    filing_places c.args.one.now c.args.from c.args.other.now c.args.to (c.args.limit + 1)
    (c.in_err-filing.ensures.many_states (err_from c.from_residual-in_err-filing.result _ c.from_residual-in_err-filing.ensures.1 e))

pub returns-clause-each : goal.returns-clause-each
returns-clause-each c =
    let none = c.new-requests.result.items in
    let files = c.add_files.new.requests.items in
    let execs = c.add_execs.new.requests.items in
    let links = c.add_links.new.requests.items in
    askable_more IsLink link_askable execs links c.in_ok-add_links.ensures.adds
    (askable_more IsExec exec_askable files execs c.in_ok-add_execs.ensures.adds
    (askable_more IsFile file_askable none files c.in_ok-add_files.ensures.adds
    (λ r d. absurd (none_in r (subst (λ (l : List Request). Contains l r) c.new-requests.ensures.items d)))))

pub returns-clause-files : goal.returns-clause-files
returns-clause-files c =
    let ps = c.args.one.now in
    let qs = c.args.other.now in
    let files = c.add_files.new.requests.items in
    let execs = c.add_execs.new.requests.items in
    let links = c.add_links.new.requests.items in
    let has = subst (λ (l : List Region). (r : Region) → Contains l r → HasFiles r.witness 128 files) c.as_slice-2.ensures.value c.in_ok-add_files.ensures.has in
    stand_keep ps c.args.from qs c.args.to IsFile execs links (adds_keep IsLink execs links c.in_ok-add_links.ensures.adds)
    (stand_keep ps c.args.from qs c.args.to IsFile files execs (adds_keep IsExec files execs c.in_ok-add_execs.ensures.adds)
    (files_at_both ps c.args.from qs c.args.to files c.in_ok-filing.filing.items c.in_ok-filing.ensures.regions has))

pub returns-clause-execs : goal.returns-clause-execs
returns-clause-execs c =
    let ps = c.args.one.now in
    let qs = c.args.other.now in
    let execs = c.add_execs.new.requests.items in
    let links = c.add_links.new.requests.items in
    let has = subst (λ (l : List Region). (r : Region) → Contains l r → HasExecs r.witness execs) c.as_slice-3.ensures.value c.in_ok-add_execs.ensures.has in
    stand_keep ps c.args.from qs c.args.to IsExec execs links (adds_keep IsLink execs links c.in_ok-add_links.ensures.adds)
    (execs_at_both ps c.args.from qs c.args.to execs c.in_ok-regions.regions.items c.in_ok-regions.ensures.regions has)

pub returns-clause-links : goal.returns-clause-links
returns-clause-links c =
    let links = c.add_links.new.requests.items in
    let has = subst (λ (l : List (List ℕ)). (s u : List ℕ) → Contains l s → Contains l u → HasLinks s u links) c.as_slice-4.ensures.value c.in_ok-add_links.ensures.has in
    links_at_both c.args.one.now c.args.from c.args.other.now c.args.to links c.in_ok-paths.paths.items c.in_ok-paths.ensures has
