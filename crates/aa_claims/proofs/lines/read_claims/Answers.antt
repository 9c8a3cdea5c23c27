use Rattle.std.proofs.Common.{length, ◌+◌, ap, ◌∙◌, arith, sym, subst}
use Rattle.std.proofs.lemmas.List.{length-drop}
use Rattle.aa_text.specs.Places.{is_line_end}
use Rattle.aa_claims.specs.Words.{count_before}
use Rattle.aa_claims.specs.Lines.{Adds}
use Rattle.aa_claims.proofs.Claims.{claims_more}
use Rattle.aa_claims.proofs.lines.read_claims.Goals as goal

pub lines-preserved : goal.lines-preserved
lines-preserved c = record {
  up_to = claims_more c.args.text.now c.lines.claims.items c.push_claim.new.claims.items c.lines.number c.lines.start (c.lines.start + c.line_length.result)
      (ap (λ n. c.lines.start + n) (c.line_length.ensures.counts ∙ ap (count_before is_line_end) c.behind.ensures))
      (subst (λ x. Adds x c.lines.number c.lines.start c.lines.claims.items c.push_claim.new.claims.items) c.before-in-lines.ensures c.in_ok-push_claim.ensures.adds)
      c.lines.invariant.up_to;
  few = c.in_ok-push_claim.ensures.few c.lines.invariant.few;
  near = omega (arith, c.lines.invariant.near);
  within = omega (arith, c.line_length.ensures.within, ap length c.behind.ensures, length-drop c.lines.start c.args.text.now, c.lines-test.true);
}
