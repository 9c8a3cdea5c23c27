use Rattle.std.proofs.Common.{◌≡◌, ℕ, [], ◌∷◌, arith, subst}
use Rattle.aa_redundancy.specs.Plain.{HasRows}
use Rattle.aa_redundancy.proofs.Positions.{rows_more}
use Rattle.aa_redundancy.proofs.kept.rows_of.Goals as goal

pub loop-number-preserved : goal.loop-number-preserved
loop-number-preserved c =
    rows_more (λ n. n ∷ []) c.loop-number.number c.loop-number.rows.items c.push.new.self.items c.in_ok-row_of.field-0 c.in_ok-push.ensures.items c.in_ok-row_of.ensures c.loop-number.invariant

pub returns : goal.returns
returns c =
    let all : c.loop-number.number ≡ c.args.count = omega (arith, c.loop-number-test.false, c.loop-number.auto.number-end) in
    subst (λ (n : ℕ). HasRows (λ k. k ∷ []) n c.loop-number.rows.items) all c.loop-number.invariant
