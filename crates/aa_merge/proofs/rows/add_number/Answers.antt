use Rattle.std.proofs.Common.{◌≡◌, ap, sym, false}
use Rattle.std.specs.Option.{is_some}
use Rattle.aa_base.proofs.FirstNumbers.{looked, added}
use Rattle.aa_merge.proofs.rows.add_number.Goals as goal

pub returns-clause-numbers : goal.returns-clause-numbers
returns-clause-numbers c = λ none other.
    let key = c.args.key in
    let es = c.args.numbers.now.entries in
    let u = c.in_ok-insert.ensures.updates in
    let absent : false ≡ is_some (looked key.items es) = sym (ap is_some none) in
    added es c.insert.new.self.entries key c.args.number absent u.1 u.3 other
