use Rattle.std.proofs.Common.{◌≡◌, ◌/◌, ◌%◌, ℕ, arith, subst}
use Rattle.aa_redundancy.specs.Plain.{net_row, HasRows}
use Rattle.aa_redundancy.proofs.Positions.{rows_more}
use Rattle.aa_redundancy.proofs.entries.rows_of_nets.Goals as goal

pub loop-number-preserved : goal.loop-number-preserved
loop-number-preserved c =
    rows_more (λ n. net_row c.args.rules.now (n / 6) (n % 6)) c.loop-number.number c.loop-number.rows.items c.push.new.self.items c.in_ok-row_of_net.field-0 c.in_ok-push.ensures.items c.in_ok-row_of_net.ensures c.loop-number.invariant

pub returns : goal.returns
returns c =
    let all : c.loop-number.number ≡ 264 = omega (arith, c.loop-number-test.false, c.loop-number.auto.number-end) in
    subst (λ (k : ℕ). HasRows (λ n. net_row c.args.rules.now (n / 6) (n % 6)) k c.loop-number.rows.items) all c.loop-number.invariant
