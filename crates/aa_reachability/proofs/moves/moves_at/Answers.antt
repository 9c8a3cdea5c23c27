use Rattle.std.proofs.Common.{◌≡◌, ◌<◌, ◌++◌, List, length, ap, ◌∙◌, arith, ⊎_elim}
use Rattle.aa_pattern.specs.Limits.{most_patterns}
use Rattle.aa_model.specs.declared.request.Request.{Request}
use Rattle.aa_representatives.specs.Alike.{deciding}
use Rattle.aa_representatives.specs.Askable.{IsChange, IsReload}
use Rattle.aa_representatives.specs.Names.{many_name_patterns}
use Rattle.aa_reachability.proofs.Executing.{of_representatives}
use Rattle.aa_reachability.proofs.Granting.{granted_all, granted_permuted}
use Rattle.aa_reachability.proofs.Keeping.{lead_all, lead_permuted, execs_permuted}
use Rattle.aa_reachability.proofs.Ordering.{reload_no_later, all_in_order}
use Rattle.aa_reachability.proofs.moves.moves_at.Goals as goal

pub returns-clause-lead : goal.returns-clause-lead
returns-clause-lead c =
    let ps = c.args.policies.now in
    let l = c.args.label in
    let execs = c.in_ok-requests.requests.items in
    let changes = c.in_ok-changes.changes.items in
    let reloads = c.in_ok-reloads.reloads.items in
    lead_all ps l execs changes reloads c.append-2.new.self.items
    (c.in_ok-append-2.ensures.items ∙ ap (λ xs. xs ++ reloads) c.in_ok-append.ensures.items) c.args.only_clean
    (execs_permuted c.args.only_clean ps l c.in_ok-execs.execs.items execs c.in_ok-requests.ensures.same c.in_ok-execs.ensures.lead)
    (lead_permuted ps l IsChange c.in_ok-found.found.requests.items changes c.in_ok-changes.ensures.same c.in_ok-found.ensures.lead)
    (of_representatives ps l IsReload reloads reload_no_later (c.in_ok-reloads.ensures l))

pub returns-clause-ordered : goal.returns-clause-ordered
returns-clause-ordered c =
    let ps = c.args.policies.now in
    let l = c.args.label in
    let execs = c.in_ok-requests.requests.items in
    let changes = c.in_ok-changes.changes.items in
    let reloads = c.in_ok-reloads.reloads.items in
    all_in_order execs changes reloads c.append-2.new.self.items
    (c.in_ok-append-2.ensures.items ∙ ap (λ (xs : List Request). xs ++ reloads) c.in_ok-append.ensures.items)
    (execs_permuted c.args.only_clean ps l c.in_ok-execs.execs.items execs c.in_ok-requests.ensures.same c.in_ok-execs.ensures.lead).each
    (lead_permuted ps l IsChange c.in_ok-found.found.requests.items changes c.in_ok-changes.ensures.same c.in_ok-found.ensures.lead).each
    (c.in_ok-reloads.ensures l).each c.in_ok-requests.ensures.rising c.in_ok-changes.ensures.rising

pub returns-clause-granted : goal.returns-clause-granted
returns-clause-granted c =
    let ps = c.args.policies.now in
    let l = c.args.label in
    let found = c.in_ok-found.found in
    let execs = c.in_ok-requests.requests.items in
    let changes = c.in_ok-changes.changes.items in
    let reloads = c.in_ok-reloads.reloads.items in
    granted_all ps l found.are_granted execs changes reloads c.append-2.new.self.items
    (c.in_ok-append-2.ensures.items ∙ ap (λ (xs : List Request). xs ++ reloads) c.in_ok-append.ensures.items)
    (execs_permuted c.args.only_clean ps l c.in_ok-execs.execs.items execs c.in_ok-requests.ensures.same c.in_ok-execs.ensures.lead).each
    (granted_permuted ps l found.are_granted found.requests.items changes c.in_ok-changes.ensures.same c.in_ok-found.ensures.granted)
    (c.in_ok-reloads.ensures l).each

pub returns-clause-few_patterns : goal.returns-clause-few_patterns
returns-clause-few_patterns c = λ many.
    ⊎_elim
    (λ (paths : most_patterns < length (deciding c.args.policies.now c.args.label)). absurd (omega (arith, paths, c.in_ok-execs.ensures.few_patterns)))
    (λ (names : most_patterns < many_name_patterns c.args.policies.now c.args.label). absurd (omega (arith, names, c.in_ok-found.ensures.few_patterns)))
    many
