use Rattle.std.proofs.Common.{◌∙◌, ap}
use Rattle.std.specs.List.{list_any}
use Rattle.std.specs.Str.{bytes_eq}
use Rattle.aa_jobs.specs.Items.{key_name}
use Rattle.aa_jobs.proofs.Looks.{among_keys}
use Rattle.aa_jobs.proofs.keyed.is_known.Goals as goal

pub returns : goal.returns
returns c =
    let k = key_name c.args.key in
    c.is_among.ensures ∙ among_keys k c.keys_of.result.now ∙ ap (list_any (λ n. bytes_eq k n)) c.keys_of.ensures
