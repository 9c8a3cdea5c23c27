use Rattle.std.proofs.lemmas.Grind.{common_steps}
use Rattle.std.proofs.Common.{arith, ap, subst, sym}
use Rattle.aa_glob.specs.Parts.{piece_of}
use Rattle.aa_glob.specs.Known.{AreKnown}
use Rattle.aa_glob.specs.Expansions.{joined, outcome, outcome_of}
use Rattle.aa_glob.specs.Pieces.{pieces_from}
use Rattle.aa_glob.specs.Settled.{times}
use Rattle.aa_glob.proofs.Summaries.{GoesOn, text_start, text_more, text_end}
use Rattle.aa_glob.specs.declared.summary.Summary.{Summary}
use Rattle.aa_glob.proofs.summary.text_summary.Goals as goal

pub loop-part-init : goal.loop-part-init
loop-part-init c = grind (arith, common_steps, text_start)

pub part_summary-requires : goal.part_summary-requires
part_summary-requires c = grind (arith, common_steps)

pub loop-part-preserved : goal.loop-part-preserved
loop-part-preserved c = record {
  known = (subst (AreKnown c.args.done.now.entries) c.in-Some.ensures.first c.loop-part.invariant.known).1;
  small = omega (arith, ap (λ (s : Summary). s.count) c.times-summary.ensures);
  goes = λ depth vars right.
      subst (GoesOn times (outcome_of depth vars c.args.text.now) (joined (outcome depth vars) (pieces_from c.in-Some.keep 0 c.in-Some.behind.now))) (sym c.times-summary.ensures)
      (text_more depth vars _ (piece_of c.in-Some.part) _ _ _ _ c.in-Some.ensures.first (c.part_summary.ensures depth vars right) (c.loop-part.invariant.goes depth vars right));
}

pub returns : goal.returns
returns c = λ depth vars right. text_end depth vars _ _ _ c.in_default.ensures.first c.loop-part.invariant.small (c.loop-part.invariant.goes depth vars right)
