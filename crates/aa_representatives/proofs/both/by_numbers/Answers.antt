use Rattle.std.proofs.Common.{◌≡◌, ◌+◌, max, min, List, length, Contains, subst, arith}
use Rattle.aa_model.specs.declared.request.Request.{Request}
use Rattle.aa_representatives.specs.Askable.{IsCap, IsNet, IsReload}
use Rattle.aa_representatives.proofs.Adding.{none_in, adds_keep}
use Rattle.aa_representatives.proofs.BothStanding.{cap_askable, net_askable, reload_askable, askable_more, stand_keep, caps_at_both, nets_at_both, reloads_at_both}
use Rattle.aa_representatives.proofs.both.by_numbers.Goals as goal

pub returns-clause-each : goal.returns-clause-each
returns-clause-each c =
    let none = c.new-requests.result.items in
    let caps = c.add_caps.new.requests.items in
    let nets = c.add_nets.new.requests.items in
    let reloads = c.add_reloads.new.requests.items in
    askable_more IsReload reload_askable nets reloads c.in_ok-add_reloads.ensures.adds
    (askable_more IsNet net_askable caps nets c.in_ok-add_nets.ensures.adds
    (askable_more IsCap cap_askable none caps c.in_ok-add_caps.ensures.adds
    (λ r d. absurd (none_in r (subst (λ (l : List Request). Contains l r) c.new-requests.ensures.items d)))))

pub returns-clause-caps : goal.returns-clause-caps
returns-clause-caps c = λ l m.
    let ps = c.args.one.now in
    let qs = c.args.other.now in
    let caps = c.add_caps.new.requests.items in
    let nets = c.add_nets.new.requests.items in
    let reloads = c.add_reloads.new.requests.items in
    stand_keep ps l qs m IsCap nets reloads (adds_keep IsReload nets reloads c.in_ok-add_reloads.ensures.adds)
    (stand_keep ps l qs m IsCap caps nets (adds_keep IsNet caps nets c.in_ok-add_nets.ensures.adds)
    (caps_at_both ps l qs m caps c.in_ok-add_caps.ensures.has))

pub returns-clause-nets : goal.returns-clause-nets
returns-clause-nets c = λ l m.
    let ps = c.args.one.now in
    let qs = c.args.other.now in
    let nets = c.add_nets.new.requests.items in
    let reloads = c.add_reloads.new.requests.items in
    stand_keep ps l qs m IsNet nets reloads (adds_keep IsReload nets reloads c.in_ok-add_reloads.ensures.adds)
    (nets_at_both ps l qs m nets c.in_ok-add_nets.ensures.has)

pub returns-clause-reloads : goal.returns-clause-reloads
returns-clause-reloads c = λ l m.
    let ps = c.args.one.now in
    let qs = c.args.other.now in
    let count = c.min-count.result + 1 in
    let is : count ≡ min (max (length ps) (length qs)) 65535 + 1 = omega (arith, c.min-count.ensures, c.max.ensures) in
    reloads_at_both ps l qs m c.add_reloads.new.requests.items count is c.in_ok-add_reloads.ensures.has
