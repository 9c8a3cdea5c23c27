use Rattle.std.proofs.Common.{subst, ◌∷◌, ◌++◌, []}
use Rattle.std.specs.Prelude.{option_map}
use Rattle.aa_log.specs.declared.logging.LinePlace.{LinePlace}
use Rattle.aa_log.specs.Found.{Skipped, AreEach}
use Rattle.aa_log.proofs.Reasons.{as_caused}
use Rattle.aa_log.proofs.Results.{on_ok}
use Rattle.aa_log.proofs.logging.LogReport.count_skipped.Goals as goal

pub returns-clause-each : goal.returns-clause-each
returns-clause-each c =
    let place : LinePlace = record { log = c.args.self.now.log; line = c.args.line } in
    let why = as_caused c.args.reason c.named-reason.result.0 c.named-reason.result.1.now c.place-place.result place c.named-reason.ensures.rank c.named-reason.ensures.word c.place-place.ensures in
    on_ok c.count_reason.result _ (λ before f. subst (λ (s : Skipped). AreEach (before ++ s ∷ []) (option_map (λ e. e.items) c.note_each.new.each)) why (c.in_ok-note_each.ensures.noted before f))

pub returns-clause-kept : goal.returns-clause-kept
returns-clause-kept c = on_ok c.count_reason.result _ c.in_ok-note_each.ensures.kept
