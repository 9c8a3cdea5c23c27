use Rattle.std.proofs.Common.{arith, vec_len}
use Rattle.aa_command.specs.Setting.{setting_of}
use Rattle.aa_ask.proofs.ReadWords.{asked_behind, too_many_behind}
use Rattle.aa_ask.specs.Command.{IsAsked}
use Rattle.aa_ask.proofs.command.ask_added.Goals as goal

pub returns-in-Ok : goal.returns-in-Ok
returns-in-Ok g c =
    let s = setting_of (g.T.Tree.files c.args.tree.now) (g.T.Tree.taken c.args.tree.now) (g.T.Tree.input c.args.tree.now) c.args.settings.now in
    asked_behind (IsAsked s c.args.options.now) c.args.from.now c.ask_words.result c.args.text.now c.args.words.items c.push_words.new.words.items c.as_slice.result.now c.in-Ok.ensures.added
    (omega (arith, c.push_words.new.words.ok.0, c.in-Ok.ensures.within c.requires)) c.as_slice.ensures.value c.ask_words.ensures

pub returns : goal.returns
returns g c =
    let s = setting_of (g.T.Tree.files c.args.tree.now) (g.T.Tree.taken c.args.tree.now) (g.T.Tree.input c.args.tree.now) c.args.settings.now in
    too_many_behind (IsAsked s c.args.options.now) c.args.from.now c.args.text.now c.args.words.items (vec_len c.args.words) c.in-Err.why c.many_refused.result
    (omega (arith, c.args.words.ok.0)) c.in-Err.ensures.refused c.many_refused.ensures.says c.many_refused.ensures.other
