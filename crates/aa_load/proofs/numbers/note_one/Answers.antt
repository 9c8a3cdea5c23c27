use Rattle.std.proofs.Common.{ap, ◌∙◌, List, ℕ, cond, Some}
use Rattle.std.specs.Str.{bytes_eq}
use Rattle.aa_load.specs.Numbers.{noted}
use Rattle.aa_load.proofs.Names.{written}
use Rattle.aa_load.proofs.numbers.note_one.Goals as goal

pub returns-clause-ok : goal.returns-clause-ok
returns-clause-ok c = λ other.
    let u = c.in_ok-insert.ensures.updates in
    written c.args.numbers.now.entries c.insert.new.self.entries c.in_ok-key.key.items (Some c.args.number) u.1 u.3 other
    ∙ ap (λ (t : List ℕ). cond (bytes_eq t other) (Some c.args.number) (noted other c.args.numbers.now.entries)) c.in_ok-key.ensures.items
