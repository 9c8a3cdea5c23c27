use Rattle.std.proofs.Common.{ℕ}
use Rattle.std.proofs.lemmas.Result.{IfOk-weaker}
use Rattle.aa_files.specs.Texts.{slices}
use Rattle.aa_against.specs.Texts.{IsPartText, IsJsonPart}
use Rattle.aa_against.specs.Command.{IsPartSaid}
use Rattle.aa_against.proofs.Saying.{Says, SaysAll, json_said, text_said}
use Rattle.aa_against.proofs.command.push_said.Goals as goal

pub returns-then-options : goal.returns-then-options
returns-then-options c =
    let o = c.args.options.now in
    let s = c.args.said.now in
    let k = c.args.skipped.now in
    let d = c.args.decided in
    let old = c.args.out.now.items in
    let new = c.push_as_json.new.out.items in
    IfOk-weaker c.push_as_json.result (λ (n : ℕ). Says (IsJsonPart (slices o.logs.now) d k o.wants_all s) old new n) (λ (n : ℕ). SaysAll (IsPartSaid o s k d) old new n)
    (λ n says. json_said o s k d old new n c.if-options.true says) c.push_as_json.ensures

pub returns : goal.returns
returns c =
    let o = c.args.options.now in
    let s = c.args.said.now in
    let k = c.args.skipped.now in
    let d = c.args.decided in
    let old = c.args.out.now.items in
    let new = c.push_as_text.new.out.items in
    IfOk-weaker c.push_as_text.result (λ (n : ℕ). Says (IsPartText (slices o.logs.now) d k o.wants_all s.report) old new n) (λ (n : ℕ). SaysAll (IsPartSaid o s k d) old new n)
    (λ n says. text_said o s k d old new n c.if-options.false says) c.push_as_text.ensures
