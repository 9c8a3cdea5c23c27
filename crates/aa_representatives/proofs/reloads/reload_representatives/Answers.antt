use Rattle.std.proofs.Common.{◌≡◌, ◌+◌, min, length, arith}
use Rattle.aa_representatives.proofs.Reloading.{reloads_stand}
use Rattle.aa_representatives.proofs.reloads.reload_representatives.Goals as goal

pub returns : goal.returns
returns c = λ label.
    let count = c.min-count.result + 1 in
    let is : count ≡ min (length c.args.policies.now) 65535 + 1 = omega (arith, c.min-count.ensures) in
    reloads_stand c.args.policies.now count is c.add_reloads.new.requests.items c.in_ok-add_reloads.ensures.has label c.new-requests.result.items c.new-requests.ensures.items c.in_ok-add_reloads.ensures.adds
