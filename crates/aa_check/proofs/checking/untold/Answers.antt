use Rattle.std.proofs.Common.{ap, sym, subst, ◌∙◌, ◌++◌, ◌∷◌, []}
use Rattle.aa_diagnostics.specs.Reports.{IsSaid}
use Rattle.aa_check.proofs.checking.untold.Goals as goal

pub returns-clause-untold : goal.returns-clause-untold
returns-clause-untold c = record {
  fault = c.in_ok-fault.fault;
  file = c.refused.result;
  said = subst (λ b. IsSaid c.args.fault c.in_ok-fault.fault b) (sym c.refused.ensures.unread) c.in_ok-fault.ensures;
  only = record { has = c.refused.ensures.has; alone = ap (λ v. v.items) c.refused.ensures.further ∙ c.new.ensures.items };
  untold = c.refused.ensures.held;
  at = ap (λ v. v.items) c.refused.ensures.path ∙ c.in_ok-path.ensures.items ∙ c.as_slice.ensures.value;
  files_are = ap (λ v. v.items) c.report_of.ensures.files ∙ c.in_ok-push.ensures.items ∙ ap (λ l. l ++ c.refused.result ∷ []) c.new-files.ensures.items;
  no_warnings = ap (λ v. v.items) c.report_of.ensures.warnings ∙ c.new-2.ensures.items;
}
