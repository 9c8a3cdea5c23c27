use Rattle.std.proofs.Common.{List, [], map, ap, subst, ◌∙◌}
use Rattle.std.proofs.lemmas.Result.{err_from_is_err_and}
use Rattle.aa_policy.proofs.Refusals.{refused_by}
use Rattle.aa_words.specs.declared.word.Word.{Word}
use Rattle.aa_words.specs.Splits.{words_data}
use Rattle.aa_policy.specs.Bodies.{IsPolicy}
use Rattle.aa_diagnostics.specs.declared.names.ProfileName.{ProfileName}
use Rattle.aa_diagnostics.specs.Named.{named_data}
use Rattle.aa_diagnostics.specs.Earlier.{named_again}
use Rattle.aa_diagnostics.proofs.NamedTwice.{named_twice}
use Rattle.aa_diagnostics.proofs.profiles.earlier_profile.Goals as goal

pub returns-in_err-names-clause-refused : goal.returns-in_err-names-clause-refused
returns-in_err-names-clause-refused c = λ h vars tree w.
    let q = err_from_is_err_and c.from_residual.result c.from_residual.ensures.1 in
    c.in_err-names.ensures.refused (refused_by c.from_residual.result _ _ q.1 q.2 h) vars tree
    (rw (c.as_slice.ensures.value) w)

pub returns-clause-repeated : goal.returns-clause-repeated
returns-clause-repeated c =
    let found = c.in_ok-names.ensures.found in
    let written : IsPolicy (words_data c.args.words.now.list.items) found.0 found.1 = subst (λ (ws : List Word). IsPolicy (words_data ws) found.0 found.1) c.as_slice.ensures.value found.2 in
    named_twice _ found.0 found.1 c.args.at _ written
    (c.named_again.ensures ∙ ap (λ (ps : List ProfileName). named_again c.args.at [] (map named_data ps)) c.as_slice-2.ensures.value ∙ ap (named_again c.args.at []) found.3)
