use Rattle.std.specs.Prelude.{is_some}
use Rattle.std.proofs.lemmas.Result.{err_from_is_err_and}
use Rattle.aa_log.specs.Joined.{added, joined}
use Rattle.aa_merge.specs.Held.{part_data}
use Rattle.aa_merge.specs.Parts.{Report, asking_key, both_counts, both_lists, merged, passed_key}
use Rattle.aa_merge.proofs.Unadded.{not_left_out, not_each, no_room}
use Rattle.aa_merge.proofs.Holding.{part_each}
use Rattle.aa_merge.proofs.Results.{too_many, unlike}
use Rattle.aa_merge.proofs.adding.Merging.add.Goals as goal

abbrev with_left_out : Report → Report → Report
with_left_out r p = record r { left_out = both_counts r.left_out p.left_out }

abbrev with_each : Report → Report → Report
with_each r p = record r { each = both_lists r.each p.each }

abbrev with_counts : Report → Report → Report
with_counts r p = record r { lines = added r.lines p.lines; asking = added r.asking p.asking; other = added r.other p.other }

abbrev with_requests : Report → Report → Report
with_requests r p = record r { requests = joined asking_key r.requests p.requests }

abbrev with_skipped : Report → Report → Report
with_skipped r p = record r { skipped = joined passed_key r.skipped p.skipped }

pub returns-clause-added : goal.returns-clause-added
unfolding merged
returns-clause-added c = λ r h.
    let p : Report = part_data c.args.part.now in
    let one : Report = with_left_out r p in
    let two : Report = with_each one p in
    let three : Report = with_counts two p in
    let four : Report = with_requests three p in
    let five : Report = with_skipped four p in
    c.in_ok-add_unclear.ensures five
    (c.in_ok-add_skipped.ensures four
    (c.in_ok-add_requests.ensures.added three
    (c.add_counts.ensures two (c.in_ok-add_each_skipped.ensures.added one (c.in_ok-add_left_out.ensures.added r h)))))

pub returns-in_err-add_left_out-clause-not : goal.returns-in_err-add_left_out-clause-not
returns-in_err-add_left_out-clause-not c =
    let q = err_from_is_err_and c.from_residual.result c.from_residual.ensures.1 in
    rw (q.1, q.2) (λ r h. not_left_out r (part_data c.args.part.now) c.in_err-add_left_out.field-0.0 (c.in_err-add_left_out.ensures.unlike r h))

pub returns-in_err-add_each_skipped-clause-not : goal.returns-in_err-add_each_skipped-clause-not
returns-in_err-add_each_skipped-clause-not c =
    let q = err_from_is_err_and c.from_residual-in_err-add_each_skipped.result c.from_residual-in_err-add_each_skipped.ensures.1 in
    rw (q.1, q.2) (λ r h.
    let p : Report = part_data c.args.part.now in
    not_each r p c.in_err-add_each_skipped.field-0.0
    (unlike _ _ (λ isnt same. isnt (part_each c.args.part.now (is_some r.each) same)) c.in_err-add_each_skipped.field-0.0
    (c.in_err-add_each_skipped.ensures.unlike (with_left_out r p) (c.in_ok-add_left_out.ensures.added r h))))

pub returns-in_err-add_requests-clause-not : goal.returns-in_err-add_requests-clause-not
returns-in_err-add_requests-clause-not c =
    let q = err_from_is_err_and c.from_residual-in_err-add_requests.result c.from_residual-in_err-add_requests.ensures.1 in
    rw (q.1, q.2) (λ r h.
    let p : Report = part_data c.args.part.now in
    let one : Report = with_left_out r p in
    let two : Report = with_each one p in
    let held = c.add_counts.ensures two (c.in_ok-add_each_skipped.ensures.added one (c.in_ok-add_left_out.ensures.added r h)) in
    no_room r p c.in_err-add_requests.field-0.0
    (too_many _ _ (λ many. many (with_counts two p) held) c.in_err-add_requests.field-0.0 c.in_err-add_requests.ensures.room))

pub returns-in_err-add_skipped-clause-not : goal.returns-in_err-add_skipped-clause-not
returns-in_err-add_skipped-clause-not c =
    let q = err_from_is_err_and c.from_residual-in_err-add_skipped.result c.from_residual-in_err-add_skipped.ensures.1 in
    rw (q.1, q.2) (λ r h. tt)

pub returns-in_err-add_unclear-clause-not : goal.returns-in_err-add_unclear-clause-not
returns-in_err-add_unclear-clause-not c =
    let q = err_from_is_err_and c.from_residual-in_err-add_unclear.result c.from_residual-in_err-add_unclear.ensures.1 in
    rw (q.1, q.2) (λ r h. tt)
