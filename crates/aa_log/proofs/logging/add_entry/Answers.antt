use Rattle.std.proofs.Common.{◌≡◌, subst, length, arith}
use Rattle.std.specs.Prelude.{ℕ}
use Rattle.aa_log.specs.Found.{AddsKey}
use Rattle.aa_log.proofs.logging.add_entry.Goals as goal

pub returns-clause-numbers : goal.returns-clause-numbers
returns-clause-numbers c = λ none.
    let is_len : c.len.result ≡ length c.args.entries.now.items = omega (arith, c.args.entries.now.ok) in
    subst (λ (n : ℕ). AddsKey c.args.numbers.now c.args.key.items n c.add_number.new.numbers) is_len (c.in_ok-add_number.ensures.numbers none)
