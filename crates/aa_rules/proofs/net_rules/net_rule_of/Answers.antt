use Rattle.std.proofs.lemmas.Result.{err_from_is_err_and}
use Rattle.aa_rules.proofs.NetRules.{no_nets}
use Rattle.aa_rules.proofs.net_rules.net_rule_of.Goals as goal

pub returns-in_err-sockets-clause-refused : goal.returns-in_err-sockets-clause-refused
returns-in_err-sockets-clause-refused c =
    let q = err_from_is_err_and c.from_residual.result c.from_residual.ensures.1 in
    rw (q.1) (λ rule rest a. no_nets _ _ rule rest c.in_err-sockets.ensures.refused a)
