use Rattle.std.proofs.Common.{rules, ◌≡◌, ◌∙◌, ap, ap₂, pos, codes, Some}
use Rattle.std.proofs.lemmas.Result.{IfOk-weaker}
use Rattle.clap.specs.Words.{app_of, new_app, rule_of, with_rule}
use Rattle.clap.specs.declared.builder.value_parser.ValueParser.{ValueParser}
use Rattle.clap.specs.declared.builder.value_parser.ValueParser.TheVariants.{Signed}
use Rattle.aa_arguments.specs.Commands.{workers_option}
use Rattle.aa_arguments.proofs.command.run.Goals as goal

pub returns-clause-app : goal.returns-clause-app
returns-clause-app c =
    let given = c.value_parser-2.ensures.given in
    let made : c.range.result ≡ Signed (pos 1) (pos 16) = rw (c.value_parser.ensures, c.new-2.ensures.start, c.new-2.ensures.end) at c.range.ensures in
    let parser : c.value_parser-2.result.value_parser ≡ Some (Signed (pos 1) (pos 16)) = given.1 ∙ ap (λ (q : ValueParser). Some q) (given.2 ∙ made) in
    let option : rule_of c.action-workers.result ≡ workers_option = search rules in
    let bare : app_of c.after_help.result ≡ new_app (codes "run") = search rules in
    IfOk-weaker c.arg.result _ _ (λ r added. added.shape (search rules) ∙ ap₂ with_rule bare option) c.arg.ensures
