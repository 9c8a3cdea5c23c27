use Rattle.aa_files.specs.Texts.{texts}
use Rattle.aa_command.specs.Setting.{setting_of}
use Rattle.aa_ask.proofs.ReadWords.{asked_readable, asked_unreadable}
use Rattle.aa_undecided.specs.Command.{IsPartAsked}
use Rattle.aa_undecided.proofs.command.ask_from.Goals as goal

pub returns-in-Ok : goal.returns-in-Ok
returns-in-Ok g c =
    let s = setting_of (g.T.Tree.files c.args.tree.now) (g.T.Tree.taken c.args.tree.now) (g.T.Tree.input c.args.tree.now) c.args.settings.now in
    asked_readable (IsPartAsked s c.args.options.now) c.args.from.now c.ask_added.result s c.in-Ok.text.items c.as_slice.result.now (texts c.args.words.items) c.in-Ok.ensures c.as_slice.ensures.value
    c.ask_added.ensures

pub returns-in-Err : goal.returns-in-Err
returns-in-Err g c =
    let s = setting_of (g.T.Tree.files c.args.tree.now) (g.T.Tree.taken c.args.tree.now) (g.T.Tree.input c.args.tree.now) c.args.settings.now in
    asked_unreadable (IsPartAsked s c.args.options.now) c.args.from.now c.words_refused.result s (texts c.args.words.items) c.in-Err.why c.in-Err.ensures c.words_refused.ensures
