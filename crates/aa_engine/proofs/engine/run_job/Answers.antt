use Rattle.std.proofs.lemmas.Result.{err_from_is_err_and}
use Rattle.aa_engine.specs.Engines.{IsExplained}
use Rattle.aa_engine.proofs.Inputs.{unread, explained, wrote, wrote_front, unwritten, handed_on, on_ok, on_err, if_err}
use Rattle.aa_engine.proofs.Decided.{run_decided}
use Rattle.aa_engine.proofs.engine.run_job.Goals as goal

pub returns-in_err-bytes-clause-cause : goal.returns-in_err-bytes-clause-cause
returns-in_err-bytes-clause-cause g c =
    let q = err_from_is_err_and c.from_residual.result c.from_residual.ensures.1 in
    let known = g.R.Read.remaining c.args.reader.now in
    handed_on c.from_residual.result _ _ (λ e. IsExplained known e) q.1 q.2 (unread known _ c.in_err-bytes.ensures.cause)

pub returns-in_err-parts-clause-cause : goal.returns-in_err-parts-clause-cause
returns-in_err-parts-clause-cause g c =
    let q = err_from_is_err_and c.from_residual-in_err-parts.result c.from_residual-in_err-parts.ensures.1 in
    let known = g.R.Read.remaining c.args.reader.now in
    handed_on c.from_residual-in_err-parts.result _ _ (λ e. IsExplained known e) q.1 q.2
    (explained known _ _ c.in_ok-bytes.ensures.kept c.in_err-parts.ensures.cause)

pub returns-clause-written : goal.returns-clause-written
returns-clause-written g c =
    let known = g.R.Read.remaining c.args.reader.now in
    let contents = g.W.Write.contents in
    on_ok c.write_parts.result _ _
    (wrote _ known (contents c.args.writer.now) (contents c.write_parts.new.writer) _ _ c.in_ok-bytes.ensures.kept
    c.in_ok-parts.ensures.text)
    (rw c.as_slice.ensures.value at c.write_parts.ensures.ok)

pub returns-clause-front : goal.returns-clause-front
returns-clause-front g c =
    let known = g.R.Read.remaining c.args.reader.now in
    let contents = g.W.Write.contents in
    on_err c.write_parts.result _ _
    (wrote_front _ known (contents c.args.writer.now) (contents c.write_parts.new.writer) _ _ c.in_ok-bytes.ensures.kept
    c.in_ok-parts.ensures.text)
    (rw c.as_slice.ensures.value at c.write_parts.ensures.err)

pub returns-clause-cause : goal.returns-clause-cause
returns-clause-cause g c =
    let known = g.R.Read.remaining c.args.reader.now in
    if_err c.write_parts.result (λ e. IsExplained known e) (unwritten known) c.write_parts.ensures.cause

pub returns-clause-decided : goal.returns-clause-decided
returns-clause-decided g c = run_decided

pub returns-in_err-bytes-clause-decided : goal.returns-in_err-bytes-clause-decided
returns-in_err-bytes-clause-decided g c = run_decided

pub returns-in_err-parts-clause-decided : goal.returns-in_err-parts-clause-decided
returns-in_err-parts-clause-decided g c = run_decided
