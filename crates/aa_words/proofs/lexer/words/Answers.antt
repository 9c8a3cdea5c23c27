use Rattle.std.proofs.Common.{◌++◌, List, sym, ap, subst, ◌∙◌}
use Rattle.std.specs.List.{All}
use Rattle.std.proofs.lemmas.Result.{err_from_is_err_and}
use Rattle.aa_words.specs.declared.word.Word.{Word}
use Rattle.aa_words.specs.Splits.{WordData, words_data}
use Rattle.aa_words.specs.WordLists.{StandsIn, Rise}
use Rattle.aa_words.proofs.Once.{reads_once, refused_none}
use Rattle.aa_words.proofs.Order.{words_ordered_in}
use Rattle.aa_words.proofs.lexer.words.Goals as goal

pub returns-in_err-read_source-clause-refused : goal.returns-in_err-read_source-clause-refused
returns-in_err-read_source-clause-refused c = λ h ws s.
    let q = err_from_is_err_and c.from_residual.result c.from_residual.ensures.1 in
    refused_none c.from_residual.result _ _ 17 _ _ _ _ ws s.1 q.1 q.2 h c.in_err-read_source.ensures.err s.2

pub returns-clause-one : goal.returns-clause-one
returns-clause-one c = λ ws s.
    let given = c.in_ok-read_source.ensures.ok in
    let listed = given.1 ∙ ap (λ (l : List Word). words_data l ++ given.0) c.new-list.ensures.items in
    (reads_once 17 c.args.sources.now _ _ _ ws given.0 s.1 _ s.2 given.2).words ∙ sym listed

pub returns-clause-slices : goal.returns-clause-slices
returns-clause-slices c =
    let given = c.in_ok-read_source.ensures.ok in
    let listed = given.1 ∙ ap (λ (l : List Word). words_data l ++ given.0) c.new-list.ensures.items in
    subst (λ (ws : List WordData). All (StandsIn c.args.sources.now c.args.main.now) ws) (sym listed) (words_ordered_in c.args.sources.now c.args.main.now 17 given.0 _ given.2).stand

pub returns-clause-rising : goal.returns-clause-rising
returns-clause-rising c =
    let given = c.in_ok-read_source.ensures.ok in
    let listed = given.1 ∙ ap (λ (l : List Word). words_data l ++ given.0) c.new-list.ensures.items in
    subst (λ (ws : List WordData). Rise ws) (sym listed) (words_ordered_in c.args.sources.now c.args.main.now 17 given.0 _ given.2).rise
