use Rattle.std.proofs.Common.{ap, ◌∙◌, List, Bor}
use Rattle.std.specs.Prelude.{ℕ}
use Rattle.std.proofs.lemmas.Result.{IfOk-weaker}
use Rattle.aa_files.specs.Texts.{texts, slices}
use Rattle.aa_merge.proofs.command.merged_printed.Goals as goal

pub returns : goal.returns
returns c = IfOk-weaker c.report_printed.result _ _ (λ out t. record {
  options = c.options_of-options.result;
  paths = ap (λ (b : Bor (List (Bor (List ℕ)))). slices b.now) c.options_of-options.ensures.logs ∙ ap slices c.as_slice-2.ensures.value
      ∙ c.in_ok-logs.ensures ∙ ap texts c.as_slice.ensures.value;
  json = c.options_of-options.ensures.json;
  text = t.0;
  is_text = t.1;
  printed = t.2;
}) c.report_printed.ensures
