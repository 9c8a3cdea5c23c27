use Rattle.std.proofs.Common.{◌∙◌, ap}
use Rattle.std.specs.List.{list_any}
use Rattle.std.specs.Str.{bytes_eq}
use Rattle.aa_jobs.proofs.Keys.{among_is}
use Rattle.aa_jobs.proofs.shape.is_known.Goals as goal

pub returns : goal.returns
returns c = c.is_among.ensures ∙ among_is c.args.key.now c.keys_of.result.now ∙ ap (list_any (λ n. bytes_eq c.args.key.now n)) c.keys_of.ensures
