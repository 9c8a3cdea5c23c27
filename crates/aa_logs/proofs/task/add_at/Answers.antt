use Rattle.std.proofs.Common.{sym, ◌∙◌}
use Rattle.std.proofs.lemmas.Result.{on_ok_weaker}
use Rattle.aa_logs.specs.Outcomes.{record_data}
use Rattle.aa_logs.proofs.Placed.{pushed, replaced}
use Rattle.aa_logs.proofs.task.add_at.Goals as goal

pub returns-in_default : goal.returns-in_default
returns-in_default c =
    pushed (record_data c.args.asked) c.args.tasks.now.items c.push.new.self.items c.in_ok-begun.field-0 (sym c.requires ∙ c.in_default.is) c.in_ok-push.ensures.items c.in_ok-begun.ensures

pub returns : goal.returns
returns c =
    on_ok_weaker c.go_on.result
    (replaced (record_data c.args.asked) c.args.tasks.now.items c.in-Some.place c.go_on.new.task c.index_mut.result.now (sym c.requires ∙ c.in-Some.is) c.index_mut.ensures.value) c.go_on.ensures
