use Rattle.aa_quantifiers.proofs.OneText.{all_execs}
use Rattle.std.proofs.Common.{◌∙◌}
use Rattle.aa_quantifiers.proofs.requests.execs_at_literal.Goals as goal

pub returns-clause-all : goal.returns-clause-all
returns-clause-all c =
    all_execs c.in_ok-requests.requests.items c.as_slice.result.now c.args.word.now c.requires (c.as_slice.ensures.value ∙ c.in_ok-path.ensures) c.in_ok-requests.ensures.has
