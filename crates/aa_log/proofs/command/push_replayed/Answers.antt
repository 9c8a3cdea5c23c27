use Rattle.std.proofs.Common.{◌≡◌, ℕ, List, [], ◌++◌}
use Rattle.std.proofs.lemmas.Result.{IfOk-weaker}
use Rattle.aa_files.specs.Texts.{slices}
use Rattle.aa_logs.specs.declared.counts.Counts.{Counts}
use Rattle.aa_log.specs.Against.{IsAgainstText, IsJsonAgainst}
use Rattle.aa_log.specs.Command.{IsReplayText}
use Rattle.aa_log.proofs.Replays.{json_replayed, text_replayed}
use Rattle.aa_log.proofs.command.push_replayed.Goals as goal

pub returns-then-options : goal.returns-then-options
returns-then-options c =
    let o = c.args.options.now in
    let s = c.args.said.now in
    let d = c.args.decided in
    let new = c.push_json_against.new.out.items in
    IfOk-weaker c.push_json_against.result
    (λ (counts : Counts). (text : List ℕ) × IsJsonAgainst (slices o.logs.now) d o.wants_all s counts text × (new ≡ c.args.out.now.items ++ text))
    (λ (counts : Counts). (text : List ℕ) × IsReplayText o s d counts text × (c.args.out.now.items ≡ [] → new ≡ text))
    (λ counts told. json_replayed o s d c.args.out.now.items new counts c.if-options.true told) c.push_json_against.ensures

pub returns : goal.returns
returns c =
    let o = c.args.options.now in
    let s = c.args.said.now in
    let d = c.args.decided in
    let new = c.push_against.new.out.items in
    IfOk-weaker c.push_against.result
    (λ (counts : Counts). (text : List ℕ) × IsAgainstText (slices o.logs.now) d o.wants_all s.report counts text ×
    (new ≡ c.args.out.now.items ++ text))
    (λ (counts : Counts). (text : List ℕ) × IsReplayText o s d counts text × (c.args.out.now.items ≡ [] → new ≡ text))
    (λ counts t. text_replayed o s d c.args.out.now.items new counts c.if-options.false t) c.push_against.ensures
