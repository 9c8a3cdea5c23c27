use Rattle.std.proofs.Common.{Option, ap, ◌∙◌}
use Rattle.std.specs.Prelude.{option_map}
use Rattle.aa_words.specs.declared.found.IncludeAt.{IncludeAt}
use Rattle.aa_job.proofs.Placing.{first_byte_is}
use Rattle.aa_job.proofs.shared.first_byte.Goals as goal

pub returns : goal.returns
returns c = first_byte_is c.args.text.now c.args.name.now c.in_ok-includes.includes.items c.byte_of.result c.in_ok-includes.ensures (c.byte_of.ensures ∙ ap (λ (o : Option IncludeAt). option_map (λ (i : IncludeAt). i.byte) o) (cc))
