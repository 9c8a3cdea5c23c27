use Rattle.std.proofs.Common.{length, arith}
use Rattle.aa_claims.proofs.Claims.{adds_none, adds_one, line_fault, one_more, handed_on}
use Rattle.aa_claims.proofs.lines.push_claim.Goals as goal

pub returns-in_err-words-clause-refused : goal.returns-in_err-words-clause-refused
returns-in_err-words-clause-refused c =
    handed_on c.from_residual.result _ _ c.from_residual.ensures.1
    (λ y p. rw p (line_fault c.args.text.now c.args.start (length c.args.claims.now.items) c.in_err-words.field-0.0 c.in_err-words.ensures.refused))

pub returns-then-is_empty-clause-adds : goal.returns-then-is_empty-clause-adds
returns-then-is_empty-clause-adds c =
    adds_none c.args.text.now c.args.number c.args.start c.args.claims.now.items c.in_ok-words.words c.in_ok-words.ensures.words
    (grind (arith, c.is_empty.ensures, c.if-is_empty.true))

pub returns-then-len-ge-MAX_CLAIMS-clause-refused : goal.returns-then-len-ge-MAX_CLAIMS-clause-refused
returns-then-len-ge-MAX_CLAIMS-clause-refused c =
    one_more c.args.text.now c.args.start (length c.args.claims.now.items) c.in_ok-words.words.items c.index.result.now c.in_ok-words.ensures.words
    (grind (arith, c.is_empty.ensures, c.if-is_empty.false)) c.index.ensures (omega (arith, c.if-len-ge-MAX_CLAIMS.true, c.len.ensures))

pub returns-clause-adds : goal.returns-clause-adds
returns-clause-adds c =
    adds_one c.args.text.now c.args.number c.args.start c.args.claims.now.items c.push.new.self.items c.in_ok-words.words c.in_ok-words.ensures.words
    (grind (arith, c.is_empty.ensures, c.if-is_empty.false)) c.in_ok-push.ensures.items
