use Rattle.std.proofs.Common.{ℕ, List, ◌∙◌}
use Rattle.aa_lint.specs.Names.{is_called}
use Rattle.aa_lint.proofs.Naming.{any_map}
use Rattle.aa_lint.proofs.finding_names.is_left_out.Goals as goal

pub returns : goal.returns
returns c = c.is_one_left_out.ensures ∙ any_map (λ (name : List ℕ). is_called name c.args.kind) (λ v. v.items) c.args.names.now
