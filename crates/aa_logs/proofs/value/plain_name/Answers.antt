use Rattle.std.proofs.Common.{rules}
use Rattle.aa_logs.proofs.Hex.{of_digits}
use Rattle.aa_logs.proofs.value.plain_name.Goals as goal

pub returns-in-Some : goal.returns-in-Some
returns-in-Some c = of_digits c.args.text.now c.in-Some.bytes.items (search rules)
