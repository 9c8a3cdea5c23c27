use Rattle.std.proofs.Common.{Ok, sym, ap, ◌∙◌, arith}
use Rattle.aa_ask.proofs.Turns.{none_read, read_more, refused_with, handed_on}
use Rattle.aa_ask.proofs.asking.requests_of.Goals as goal

pub loop-word-init : goal.loop-word-init
loop-word-init c = none_read c.args.owned ∙ ap Ok (sym c.new-requests.ensures.items)

pub returns-in_err-request_of : goal.returns-in_err-request_of
returns-in_err-request_of c =
    handed_on _ c.from_residual.result c.in_err-request_of.field-0.0 _ _ c.from_residual.ensures.1 (λ y p. p)
    (refused_with c.args.owned c.args.words.now c.loop-word.word-index c.word-item.result _ _ c.in_err-request_of.field-0.0 (omega arith) c.word-item.is c.as_slice.ensures.value c.loop-word.invariant c.in_err-request_of.ensures)

pub loop-word-preserved : goal.loop-word-preserved
loop-word-preserved c =
    read_more c.args.owned c.args.words.now c.loop-word.word-index c.word-item.result _ _ _ (omega arith) c.word-item.is c.as_slice.ensures.value c.loop-word.invariant c.in_ok-request_of.ensures ∙ ap Ok (sym c.in_ok-push.ensures.items)
