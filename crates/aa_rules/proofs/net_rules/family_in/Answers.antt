use Rattle.std.proofs.Common.{◌∙◌, ap, arith}
use Rattle.std.specs.Prelude.{ℕ, ◌^◌, Some, option_map}
use Rattle.std.proofs.lemmas.Nat.{one_shl}
use Rattle.aa_base.specs.Tables.{family_names}
use Rattle.aa_rules.proofs.net_rules.family_in.Goals as goal

pub overflow_shl-result : goal.overflow_shl-result
unfolding family_names
overflow_shl-result c = omega (arith, c.number.ensures.in_table)

pub returns : goal.returns
unfolding family_names
returns c =
    ap Some (one_shl c.number.result 64 (omega (arith, c.number.ensures.in_table)) ∙ ap (λ (n : ℕ). 2 ^ n) c.number.ensures.number)
    ∙ ap (option_map (λ n. 2 ^ n)) c.in_ok-family.ensures
