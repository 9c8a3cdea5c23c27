use Rattle.std.proofs.Common.{All, length, sym, subst}
use Rattle.std.proofs.lemmas.List.Elements.{All-push}
use Rattle.aa_redundancy.specs.Tables.{Equal, TablesRelated}
use Rattle.aa_redundancy.specs.Covering.{Within}
use Rattle.aa_redundancy.specs.Reasons.{IsReason}
use Rattle.aa_redundancy.proofs.reasons.push_reason.Goals as goal

pub returns-clause-reasons : goal.returns-clause-reasons
returns-clause-reasons c =
    let P = IsReason (TablesRelated Equal c.args.tables.now) (TablesRelated Within c.args.tables.now) (length c.args.listed.now) in
    subst (All P) (sym c.in_ok-push.ensures.items) (All-push P c.args.reasons.now.items c.in_ok-reason.reason c.requires.reasons c.in_ok-reason.ensures.reason)
