use Rattle.std.proofs.Common.{◌≡◌, Bool, true, sym, ◌∙◌}
use Rattle.aa_unclean_paths.proofs.Decided.{unclean_then, then_unclean}
use Rattle.aa_unclean_paths.proofs.paths.is_unclean.Goals as goal

pub returns-clause-tells : goal.returns-clause-tells
returns-clause-tells c = (λ e. unclean_then c.args.path.now (sym c.has_nothing.ensures ∙ e), λ u. c.has_nothing.ensures ∙ then_unclean c.args.path.now u)
