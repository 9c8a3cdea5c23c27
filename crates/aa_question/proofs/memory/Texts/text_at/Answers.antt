use Rattle.std.proofs.Common.{ap, ◌∙◌, option_map}
use Rattle.aa_question.proofs.Rows.{copied_items, found_is}
use Rattle.aa_question.proofs.memory.Texts.text_at.Goals as goal

pub returns : goal.returns
returns c = copied_items c.get.result ∙ ap (option_map (λ v. v.items)) c.get.ensures.value ∙ found_is c.args.path.now c.args.self.now.rows.entries
