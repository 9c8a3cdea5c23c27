use Rattle.std.proofs.Common.{sym, ap, ◌∙◌, List}
use Rattle.aa_logs.specs.Outcomes.{record_data}
use Rattle.aa_logs.specs.declared.task.LogTask.{LogTask}
use Rattle.aa_logs.specs.Tasks.{tasks_data, fits}
use Rattle.aa_logs.proofs.task.take_record.Goals as goal

pub returns-then-not-has_room-clause-fits : goal.returns-then-not-has_room-clause-fits
returns-then-not-has_room-clause-fits c =
    let told = c.has_room-has_room.ensures (record_data c.args.asked) c.place_of-place.ensures in
    sym c.if-not-has_room.true ∙ told ∙ ap (λ (ts : List LogTask). fits (record_data c.args.asked) (tasks_data ts)) c.as_slice-seen.ensures.value

pub returns-clause-fits : goal.returns-clause-fits
returns-clause-fits c =
    let told = c.has_room-has_room.ensures (record_data c.args.asked) c.place_of-place.ensures in
    sym c.if-not-has_room.false ∙ told ∙ ap (λ (ts : List LogTask). fits (record_data c.args.asked) (tasks_data ts)) c.as_slice-seen.ensures.value
