use Rattle.std.proofs.Common.{ap, sym}
use Rattle.std.specs.Option.{is_some}
use Rattle.aa_base.proofs.FirstNumbers.{added}
use Rattle.aa_findings.proofs.keys.add_number.Goals as goal

pub returns : goal.returns
returns c = λ name.
    let key = c.args.key in
    let es = c.args.firsts.now.entries in
    let u = c.in_ok-insert.ensures.updates in
    added es c.insert.new.self.entries key c.args.number (sym (ap is_some c.requires)) u.1 u.3 name
