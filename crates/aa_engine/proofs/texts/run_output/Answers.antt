use denote.Param.Send.{sendable}
use Rattle.std.proofs.Common.{◌∙◌, ap, sym, zero-add, Some}
use Rattle.std.proofs.lemmas.List.{length-map}
use Rattle.aa_engine.proofs.Crossing.{task_text_send}
use Rattle.aa_engine.proofs.Streams.{bytes_of}
use Rattle.aa_engine.proofs.Writing.{all_known, as_many_rows, lines_joined, where_ok}
use Rattle.aa_engine.proofs.texts.run_output.Goals as goal

pub make_all-requires-send-T : goal.make_all-requires-send-T
make_all-requires-send-T g c κs within = search (task_text_send, c.type_bounds.sync-M, sendable) depth 10 fits 10000

pub texts_to_make-requires-clause-known : goal.texts_to_make-requires-clause-known
texts_to_make-requires-clause-known g c = all_known _ _ _ c.args.policies.now c.args.tasks.now _ c.requires

pub texts_to_make-requires-clause-len : goal.texts_to_make-requires-clause-len
texts_to_make-requires-clause-len g c = sym (length-map c.args.rows.now _) ∙ as_many_rows _ _ _ c.args.policies.now c.args.tasks.now _ c.requires

pub returns : goal.returns
returns g c =
    let ready = c.in_ok-texts.ensures {u = tt} in
    where_ok c.taken.result _ _ (λ parts whole.
    lines_joined g.M.Machine.next g.M.Machine.reply c.args.machine.now c.args.several c.args.policies.now 0 c.args.tasks.now c.in_ok-texts.texts.items c.make_all.result.items (bytes_of parts.items)
    (c.requires ∙ ap (λ rows. Some rows) (sym ready.answers)) ready.labels ready.alike c.make_all.ensures.len
    (λ i d lt. rw zero-add (c.make_all.ensures.made i d lt)) whole) c.taken.ensures
