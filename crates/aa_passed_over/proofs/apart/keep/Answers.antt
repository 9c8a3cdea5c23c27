use Rattle.std.proofs.Common.{Some}
use Rattle.aa_load.proofs.Names.{written}
use Rattle.aa_passed_over.proofs.Keeping.{kept}
use Rattle.aa_passed_over.proofs.apart.keep.Goals as goal

pub returns : goal.returns
returns c = λ texts h.
    let u = c.in_ok-insert.ensures.updates in
    kept c.args.seen.now.entries c.insert.new.self.entries texts c.args.text.now c.in_ok-key.key.items _
    (written c.args.seen.now.entries c.insert.new.self.entries c.in_ok-key.key.items (Some _) u.1 u.3) c.in_ok-key.ensures.items h
